use Rattle.std.proofs.Common.{[], ◌∷◌}
use Rattle.boards.specs.Atoms.{at}
use Rattle.boards.specs.Base.{clauses_of, no_later_digit, not_both}
use Rattle.boards.specs.Board.{side}
use Rattle.places.proofs.Loops.{ToCome, up_to}
use Rattle.boards.proofs.cells.write_no_later_digit.Given as goal

abbrev pub invariant-loop-digit : goal.invariant-loop-digit
invariant-loop-digit g l = ToCome g.P.Place (clauses_of l.fn.board (no_later_digit l.fn.board l.fn.mark.cell l.fn.mark.digit)) l.fn.place
    (λ d. clauses_of l.fn.board (not_both (at l.fn.mark.cell l.fn.mark.digit) (at l.fn.mark.cell d) ∷ [])) [] (up_to (side l.fn.board) l.digit) l.place
