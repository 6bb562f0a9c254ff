use Rattle.std.proofs.Common.{◌≡◌, ℕ, []}
use Rattle.places.proofs.Loops.{ToCome}
use Rattle.kinds.specs.Answers.{clauses_from}
use Rattle.meanings.specs.Thermometer.{below, rising}
use Rattle.thermometer.proofs.Rising.{steps}
use Rattle.thermometer.proofs.steps.write_steps.Given as goal

abbrev pub invariant-loop-pair : goal.invariant-loop-pair
invariant-loop-pair g l =
    (l.pair-iterator.size ≡ 2) ×
    ((f : ℕ) → ToCome g.P.Place (clauses_from l.board f (rising l.board l.cells)) l.initial.place (λ s. clauses_from l.board f (below l.board s.0 s.1)) []
    (steps l.pair-iterator.rest.now) l.place)
