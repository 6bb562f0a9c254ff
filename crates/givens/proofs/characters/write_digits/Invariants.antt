use Rattle.std.proofs.Common.{ℕ, [], length}
use Rattle.places.proofs.Loops.{ToCome, below}
use Rattle.kinds.specs.Answers.{clauses_from}
use Rattle.meanings.specs.Givens.{stated}
use Rattle.givens.proofs.Stated.{character_turn}
use Rattle.givens.proofs.characters.write_digits.Given as goal

abbrev pub invariant-loop-index : goal.invariant-loop-index
invariant-loop-index g l =
    (f : ℕ) → ToCome g.P.Place (clauses_from l.board f (stated 0 l.body)) l.initial.place (character_turn l.board f l.body) [] (below (length l.body) l.index) l.place
