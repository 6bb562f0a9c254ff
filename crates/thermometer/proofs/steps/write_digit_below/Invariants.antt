use Rattle.std.proofs.Common.{ℕ, []}
use Rattle.places.proofs.Loops.{ToCome, up_to}
use Rattle.thermometer.proofs.Rising.{digit_turn, pair_turn}
use Rattle.thermometer.proofs.steps.write_digit_below.Given as goal

abbrev pub invariant-loop-other : goal.invariant-loop-other
invariant-loop-other g l =
    (f : ℕ) → ToCome g.P.Place (digit_turn l.board f l.lower l.upper l.digit) l.initial.place (pair_turn l.board f l.lower l.upper l.digit) []
    (up_to l.digit l.other) l.place
