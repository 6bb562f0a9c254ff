use Rattle.std.proofs.Common.{ℕ, not, refl, ap, ◌∙◌, rules, get_or}
use Rattle.std.specs.Option.{option_map}
use Rattle.std.proofs.lemmas.Iterator.{YieldsList-from_slice}
use Rattle.std.proofs.lemmas.Iterator.Search.{position_from_yields_List}
use borrow.Author.Tests.{tests}
use Rattle.parts.specs.declared.fault.KindFault.TheVariants.{Character}
use Rattle.parts.proofs.Found.{found, refused}
use Rattle.meanings.specs.Givens.{fitting}
use Rattle.givens.proofs.characters.check_characters.Goals as goal

pub returns : goal.returns
returns c =
    let bad = λ (x : ℕ). not (fitting c.args.board.now x) in
    let xs = c.args.body.now in
    let p = position_from_yields_List bad _ _ c.position.result c.position.ensures.ran (YieldsList-from_slice xs cc) (λ x b q k. search (rules, tests)) in
    refused Character c.position.result c.map_or.result (search rules) ∙ ap (option_map Character) p ∙ found 0 bad Character (λ i. bad (get_or xs i 0)) xs (λ i l. refl)
