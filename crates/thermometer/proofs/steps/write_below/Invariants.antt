use Rattle.std.proofs.Common.{ℕ, []}
use Rattle.places.proofs.Loops.{ToCome, up_to}
use Rattle.boards.specs.Board.{side}
use Rattle.kinds.specs.Answers.{clauses_from}
use Rattle.meanings.specs.Thermometer.{below}
use Rattle.thermometer.proofs.Rising.{digit_turn}
use Rattle.thermometer.proofs.steps.write_below.Given as goal

abbrev pub invariant-loop-digit : goal.invariant-loop-digit
invariant-loop-digit g l =
    (f : ℕ) → ToCome g.P.Place (clauses_from l.board f (below l.board l.lower l.upper)) l.initial.place (digit_turn l.board f l.lower l.upper) []
    (up_to (side l.board) l.digit) l.place
