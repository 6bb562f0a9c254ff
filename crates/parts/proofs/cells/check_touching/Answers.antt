use Rattle.std.proofs.Common.{◌≡◌, ℕ, ◌+◌, ◌-◌, true, leb, not, ◌&&◌, List, [], get_or, sym, ap, ap₂, ◌∙◌, refl, rules, arith}
use Rattle.std.specs.Option.{option_map}
use Rattle.std.proofs.lemmas.Bool.{le-leb}
use Rattle.std.proofs.lemmas.Iterator.Search.{position_from_yields_List}
use borrow.Author.Tests.{tests}
use Rattle.parts.specs.Tests.{apart, touch}
use Rattle.parts.specs.declared.fault.KindFault.TheVariants.{Apart}
use Rattle.parts.proofs.Found.{YieldsList-from_windows, at_neighbours, found, from_second, neighbours, refused}
use Rattle.parts.proofs.cells.check_touching.Goals as goal

pub returns : goal.returns
returns c =
    let b = c.args.board.now in
    let xs = c.args.body.now in
    let test = λ (l : List ℕ). not (touch b (get_or l 0 0) (get_or l 1 0)) in
    let fault = λ (i : ℕ). Apart (i + 1) in
    let p = position_from_yields_List test _ _ c.position.result c.position.ensures.ran (YieldsList-from_windows xs (cc) (cc)) (λ x b q k. search (rules, tests)) in
    refused fault c.position.result c.map_or.result (search rules) ∙ ap (option_map fault) p ∙
    found [] test fault (λ i. apart b xs (i + 1)) (neighbours xs) (λ i l.
    let later : true ≡ leb 1 (i + 1) = sym (le-leb 1 (i + 1) (omega arith)) in
    let before : i ≡ i + 1 - 1 = omega arith in
    ap test (at_neighbours xs i l) ∙ ap₂ (λ t k. t && not (touch b (get_or xs k 0) (get_or xs (i + 1) 0))) later before) ∙
    from_second Apart (apart b xs) xs refl
