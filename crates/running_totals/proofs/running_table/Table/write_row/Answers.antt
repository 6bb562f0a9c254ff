use Rattle.std.proofs.Common.{◌+◌, arith}
use Rattle.formulas.proofs.Numbered.{numbered_joined}
use Rattle.places.proofs.Loops.{below, next_below, none_below, turn_exit, turn_more, turns_all, turns_begin}
use Rattle.totals.specs.Running.{step}
use Rattle.running_totals.specs.Room.{numbers}
use Rattle.running_totals.proofs.running_table.Table.write_row.Goals as goal

pub loop-sum-init : goal.loop-sum-init
loop-sum-init g c =
    let s = c.args.self.now.sum in
    turns_begin (numbered_joined (numbers s) (step s.target c.args.index c.args.weight) (below (s.target + 1) 0))

pub returns-in_err-write : goal.returns-in_err-write
returns-in_err-write g c =
    turn_exit c.loop-sum.invariant (next_below (c.args.self.now.sum.target + 1) c.loop-sum.sum (omega arith)) c.from_residual.result c.from_residual.ensures.1
    c.in_err-write.ensures

pub loop-sum-preserved : goal.loop-sum-preserved
loop-sum-preserved g c = turn_more c.loop-sum.invariant (next_below (c.args.self.now.sum.target + 1) c.loop-sum.sum (omega arith)) c.in_ok-write.ensures

pub returns-in_ok-write : goal.returns-in_ok-write
returns-in_ok-write g c =
    turns_all (turn_more c.loop-sum.invariant (next_below (c.args.self.now.sum.target + 1) c.loop-sum.sum (omega arith)) c.in_ok-write.ensures)
    (none_below (c.args.self.now.sum.target + 1) (c.loop-sum.sum + 1) (omega arith))
