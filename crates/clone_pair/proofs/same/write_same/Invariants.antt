use Rattle.std.proofs.Common.{ℕ, []}
use Rattle.places.proofs.Loops.{ToCome, up_to}
use Rattle.boards.specs.Board.{side}
use Rattle.kinds.specs.Answers.{clauses_from}
use Rattle.clone_pair.specs.Meaning.{same}
use Rattle.clone_pair.proofs.Turns.{turn}
use Rattle.clone_pair.proofs.same.write_same.Given as goal

abbrev pub invariant-loop-digit : goal.invariant-loop-digit
invariant-loop-digit g l =
    (f : ℕ) → ToCome g.P.Place (clauses_from l.board f (same l.board l.one l.other)) l.initial.place (turn l.board l.one l.other) [] (up_to (side l.board) l.digit) l.place
