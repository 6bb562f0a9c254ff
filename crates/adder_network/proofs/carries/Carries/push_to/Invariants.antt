use Rattle.std.proofs.Common.{◌≡◌, ◌+◌, ◌++◌}
use Rattle.arrayvec.specs.ArrayVec.{array_vec_len}
use Rattle.totals.specs.Numbers.{seconds}
use Rattle.adder_network.specs.Variables.{numbers}
use Rattle.adder_network.proofs.carries.Carries.push_to.Given as goal

abbrev pub invariant-loop-index : goal.invariant-loop-index
invariant-loop-index l =
    (numbers l.line.items ≡ numbers l.initial.line.items ++ seconds (l.self.below + 1) l.index) × (array_vec_len l.line ≡ array_vec_len l.initial.line + l.index)
