use Rattle.running_totals.proofs.Rows.{room_from}
use Rattle.running_totals.proofs.running.RunningTotalsTotaller.write.Goals as goal

pub invariant_of-write : goal.invariant_of-write
invariant_of-write g c = record { room = room_from c.args.sum.now c.in_ok-fresh.ensures.0 }
