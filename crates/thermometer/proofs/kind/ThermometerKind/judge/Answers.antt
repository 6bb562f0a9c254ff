use Rattle.std.proofs.Common.{sym}
use Rattle.boards.specs.Board.{side}
use Rattle.parts.specs.Tests.{cell_fault, length_fault}
use Rattle.totallers.proofs.Faultless.{both_none}
use Rattle.meanings.proofs.Faults.{cells_on}
use Rattle.kinds.proofs.Judging.{cells_in}
use Rattle.thermometer.proofs.kind.ThermometerKind.judge.Goals as goal

pub rises-requires : goal.rises-requires
rises-requires c =
    let b = c.args.board.now in
    let body = c.args.part.now.body.now in
    let later = (both_none (length_fault 2 (side b) body) _ (sym c.in_ok-test.ensures)).1 in
    cells_in b c.args.grid.now body (sym c.in_ok-check_grid.ensures) (cells_on b body (both_none (cell_fault b body) _ later).0)
