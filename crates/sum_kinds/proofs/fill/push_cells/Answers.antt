use Rattle.sum_kinds.proofs.Filling.{cells_room}
use Rattle.sum_kinds.proofs.fill.push_cells.Goals as goal

pub push_cell-requires : goal.push_cell-requires
push_cell-requires c = cells_room c.args.board.now c.args.cells.now c.args.items.now c.loop-cell.cell-index c.loop-cell.items c.loop-cell.invariant c.loop-cell-test.true c.requires
