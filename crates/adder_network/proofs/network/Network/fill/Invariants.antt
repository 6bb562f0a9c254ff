use Rattle.std.proofs.Common.{◌≡◌, ◌≤◌, ◌++◌, get_or, drop}
use Rattle.arrayvec.specs.ArrayVec.{array_vec_len}
use Rattle.totals.specs.Adders.{with_bit}
use Rattle.adder_network.specs.Variables.{numbers}
use Rattle.adder_network.proofs.network.Network.fill.Given as goal

abbrev pub invariant-loop-index : goal.invariant-loop-index
invariant-loop-index l =
    (numbers l.line.items ++ with_bit (λ i. get_or l.self.sum.variables.now i 0) l.bit.index l.index (drop l.index l.self.sum.weights.now) ≡
    with_bit (λ i. get_or l.self.sum.variables.now i 0) l.bit.index 0 l.self.sum.weights.now) ×
    (array_vec_len l.line ≤ l.index)
