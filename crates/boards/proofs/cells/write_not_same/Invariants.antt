use Rattle.std.proofs.Common.{[], ◌∷◌}
use Rattle.boards.specs.Atoms.{at}
use Rattle.boards.specs.Base.{clauses_of, not_both, not_same}
use Rattle.boards.specs.Board.{side}
use Rattle.places.proofs.Loops.{ToCome, up_to}
use Rattle.boards.proofs.cells.write_not_same.Given as goal

abbrev pub invariant-loop-digit : goal.invariant-loop-digit
invariant-loop-digit g l = ToCome g.P.Place (clauses_of l.fn.board (not_same l.fn.board (l.fn.first, l.fn.second))) l.fn.place
    (λ d. clauses_of l.fn.board (not_both (at l.fn.first d) (at l.fn.second d) ∷ [])) [] (up_to (side l.fn.board) l.digit) l.place
