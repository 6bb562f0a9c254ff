use Rattle.std.proofs.Common.{rules}
use Rattle.thermometer.proofs.kind.ThermometerKind.write.Goals as goal

pub returns-in_err-write_steps : goal.returns-in_err-write_steps
returns-in_err-write_steps g c = let w = c.in_err-write_steps.ensures c.args.first in search rules

pub returns : goal.returns
returns g c = let w = c.in_ok-write_steps.ensures c.args.first in search rules
