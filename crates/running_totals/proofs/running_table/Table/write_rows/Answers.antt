use Rattle.std.proofs.Common.{length, arith}
use Rattle.formulas.proofs.Numbered.{numbered_joined}
use Rattle.places.proofs.Loops.{below, next_below, none_below, turn_exit, turn_more, turns_all, turns_begin}
use Rattle.totals.specs.Running.{row}
use Rattle.running_totals.specs.Room.{numbers}
use Rattle.running_totals.proofs.running_table.Table.write_rows.Goals as goal

pub loop-index-init : goal.loop-index-init
loop-index-init g c =
    let s = c.args.self.now.sum in
    turns_begin (numbered_joined (numbers s) (row s.weights.now s.target) (below (length s.weights.now) 0))

pub returns-in_err-write_row : goal.returns-in_err-write_row
returns-in_err-write_row g c =
    turn_exit c.loop-index.invariant (next_below (length c.args.self.now.sum.weights.now) c.loop-index.index (omega arith)) c.from_residual.result c.from_residual.ensures.1
    c.in_err-write_row.ensures

pub loop-index-preserved : goal.loop-index-preserved
loop-index-preserved g c =
    turn_more c.loop-index.invariant (next_below (length c.args.self.now.sum.weights.now) c.loop-index.index (omega arith)) c.in_ok-write_row.ensures

pub returns : goal.returns
returns g c = turns_all c.loop-index.invariant (none_below (length c.args.self.now.sum.weights.now) c.loop-index.index (omega arith))
