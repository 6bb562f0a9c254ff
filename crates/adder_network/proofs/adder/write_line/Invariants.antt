use Rattle.std.proofs.Common.{◌-◌, ◌≤◌, length, drop}
use Rattle.adder_network.specs.Variables.{numbers}
use Rattle.adder_network.proofs.Reducing.{Reducing}
use Rattle.adder_network.proofs.adder.write_line.Given as goal

abbrev pub invariant-loop-taken : goal.invariant-loop-taken
invariant-loop-taken g l =
    (l.taken ≤ length l.line.items) ×
    Reducing g.P.Place (numbers l.initial.line.items) l.initial.next l.initial.place (drop l.taken (numbers l.line.items)) (length l.line.items) l.next l.place

abbrev pub decreases-loop-taken : goal.decreases-loop-taken
decreases-loop-taken g l = length l.line.items - l.taken
