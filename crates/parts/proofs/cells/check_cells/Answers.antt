use Rattle.std.proofs.Common.{refl, ap, ◌∙◌, rules, nat_le}
use Rattle.std.specs.Option.{option_map}
use Rattle.std.proofs.lemmas.Iterator.{YieldsList-from_slice}
use Rattle.std.proofs.lemmas.Iterator.Search.{position_from_yields_List}
use borrow.Author.Tests.{tests}
use Rattle.boards.specs.Board.{cells}
use Rattle.parts.specs.Tests.{beyond}
use Rattle.parts.specs.declared.fault.KindFault.TheVariants.{Cell}
use Rattle.parts.proofs.Found.{found, refused}
use Rattle.parts.proofs.cells.check_cells.Goals as goal

pub returns : goal.returns
returns c =
    let b = c.args.board.now in
    let xs = c.args.body.now in
    let p = position_from_yields_List (λ x. nat_le (cells b) x) _ _ c.position.result c.position.ensures.ran (YieldsList-from_slice xs cc) (λ x b q k. search (rules, tests)) in
    refused Cell c.position.result c.map_or.result (search rules) ∙ ap (option_map Cell) p ∙ found 0 (λ x. nat_le (cells b) x) Cell (beyond b xs) xs (λ i l. refl)
