use Rattle.std.proofs.Common.{[], ◌∷◌}
use Rattle.formulas.specs.Formula.{isnt}
use Rattle.formulas.specs.Numbered.{numbered}
use Rattle.places.proofs.Loops.{ToCome, up_to}
use Rattle.totals.specs.Running.{at, no_other_sum}
use Rattle.running_totals.specs.Room.{numbers}
use Rattle.running_totals.proofs.running_table.Table.write_no_other_sum.Given as goal

abbrev pub invariant-loop-sum : goal.invariant-loop-sum
invariant-loop-sum g l =
    let s = l.self.sum in
    ToCome g.P.Place (numbered (numbers s) (no_other_sum s.target)) l.initial.place (λ u. numbered (numbers s) ((isnt (at s.target 0 u) ∷ []) ∷ [])) []
    (up_to s.target l.sum) l.place
