use Rattle.std.proofs.Common.{◌≡◌, ◌+◌, ◌*◌, ◌≤◌}
use Rattle.totals.specs.Numbers.{count_from}
use Rattle.adder_network.proofs.lines.count_adders.Given as goal

abbrev pub invariant-loop-index : goal.invariant-loop-index
invariant-loop-index l = (l.adders + count_from l.weights l.index l.carries ≡ count_from l.weights 0 0) × (l.carries ≤ 96) × (l.adders ≤ 96 * l.index)
