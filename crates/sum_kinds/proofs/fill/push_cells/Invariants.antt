use Rattle.sum_kinds.proofs.Filling.{CellsToCome}
use Rattle.sum_kinds.proofs.fill.push_cells.Given as goal

abbrev pub invariant-loop-cell : goal.invariant-loop-cell
invariant-loop-cell l = CellsToCome l.board l.cells l.initial.items l.cell-index l.items
