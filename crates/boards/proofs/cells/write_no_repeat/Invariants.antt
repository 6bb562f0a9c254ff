use Rattle.std.proofs.Common.{[], length}
use Rattle.boards.specs.Base.{clauses_of, differs, no_repeat}
use Rattle.places.proofs.Loops.{ToCome}
use Rattle.boards.proofs.Loops.{tails}
use Rattle.boards.proofs.cells.write_no_repeat.Given as goal

abbrev pub invariant-loop-cell : goal.invariant-loop-cell
invariant-loop-cell g l = ToCome g.P.Place (clauses_of l.fn.board (no_repeat l.fn.board l.fn.cells)) l.fn.place (λ t. clauses_of l.fn.board (differs l.fn.board t.0 t.1)) [] (tails l.rest) l.place

abbrev pub decreases-loop-cell : goal.decreases-loop-cell
decreases-loop-cell g l = length l.rest
