use Rattle.adder_network.proofs.Whole.{fitting_from}
use Rattle.adder_network.proofs.totaller.AdderNetworkTotaller.write.Goals as goal

pub invariant_of-write : goal.invariant_of-write
invariant_of-write g c =
    let s = c.args.sum.now in
    fitting_from s.variables.now s.weights.now s.target s.first c.in_ok-fresh.ensures.0
