use Rattle.std.proofs.Common.{map}
use Rattle.adder_network.specs.Variables.{number_of}
use Rattle.adder_network.proofs.Lining.{Lining}
use Rattle.adder_network.proofs.network.Network.write_lines.Given as goal

abbrev pub invariant-loop-index : goal.invariant-loop-index
invariant-loop-index g l = Lining g.P.Place l.self.sum.variables.now l.self.sum.weights.now l.self.sum.first l.initial.place l.index l.carries.0 l.carries.1.0 (map number_of l.bits.items) l.place
