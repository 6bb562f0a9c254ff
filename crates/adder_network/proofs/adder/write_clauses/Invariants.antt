use Rattle.std.proofs.Common.{[], ◌∷◌, drop}
use Rattle.places.proofs.Loops.{ToCome}
use Rattle.adder_network.proofs.adder.write_clauses.Given as goal

abbrev pub invariant-loop-clause : goal.invariant-loop-clause
invariant-loop-clause g l = ToCome g.P.Place l.clauses l.initial.place (λ c. c ∷ []) [] (drop l.clause-index l.clauses) l.place
