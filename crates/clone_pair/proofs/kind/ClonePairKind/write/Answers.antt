use Rattle.std.proofs.Common.{rules}
use Rattle.clone_pair.proofs.kind.ClonePairKind.write.Goals as goal

pub returns-in_err-write_same : goal.returns-in_err-write_same
returns-in_err-write_same g c = let w = c.in_err-write_same.ensures c.args.first in search rules

pub returns : goal.returns
returns g c = let w = c.in_ok-write_same.ensures c.args.first in search rules
