use Rattle.std.proofs.Common.{rules}
use Rattle.adder_network.proofs.Whole.{fresh_is}
use Rattle.adder_network.proofs.totaller.AdderNetworkTotaller.fresh_count.Goals as goal

pub returns : goal.returns
returns c = rw (fresh_is c.args.weights.now c.args.target) (search rules)
