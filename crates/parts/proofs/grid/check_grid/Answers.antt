use Rattle.std.proofs.Common.{refl, ap, ◌∙◌, sym, rules, not, get_or, length, arith}
use Rattle.std.specs.Option.{option_map}
use Rattle.std.proofs.lemmas.Bool.{cond-true, eq-eqb}
use Rattle.std.proofs.lemmas.Iterator.{YieldsList-from_slice}
use Rattle.std.proofs.lemmas.Iterator.Search.{position_from_yields_List}
use borrow.Author.Tests.{tests}
use Rattle.parts.specs.Tests.{digit}
use Rattle.parts.specs.declared.fault.KindFault.TheVariants.{GridDigit}
use Rattle.parts.proofs.Found.{found, refused}
use Rattle.parts.proofs.grid.check_grid.Goals as goal

pub returns : goal.returns
returns c =
    let b = c.args.board.now in
    let xs = c.args.grid.now in
    let p = position_from_yields_List (λ x. not (digit b x)) _ _ c.position.result c.position.ensures.ran (YieldsList-from_slice xs cc) (λ x b q k. search (rules, tests)) in
    refused GridDigit c.position.result c.map_or.result (search rules) ∙ ap (option_map GridDigit) p ∙
    found 0 (λ x. not (digit b x)) GridDigit (λ i. not (digit b (get_or xs i 0))) xs (λ i l. refl) ∙
    sym (cond-true _ _ _ (eq-eqb (length xs) _ (omega (arith, c.if-grid-cells.false, c.cells.ensures.value))))
