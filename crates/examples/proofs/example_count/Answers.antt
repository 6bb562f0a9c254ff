use Rattle.std.proofs.Common.{refl}
use Rattle.examples.proofs.example_count.Goals as goal

pub returns : goal.returns
returns c = record { count = refl; all = refl }
