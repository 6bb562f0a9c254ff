use Rattle.std.proofs.Common.{◌+◌, ◌*◌, pos, neg_ℤ, arith}
use Rattle.std.proofs.lemmas.Int.{ints}
use Rattle.places.proofs.Loops.{next_up_to, none_up_to, turn_exit, turn_more, turns_all, turns_begin}
use Rattle.running_totals.specs.Room.{numbers}
use Rattle.running_totals.proofs.Rows.{no_other_is}
use Rattle.running_totals.proofs.Sums.{unit_as}
use Rattle.running_totals.proofs.running_table.Table.write_no_other_sum.Goals as goal

pub loop-sum-init : goal.loop-sum-init
loop-sum-init g c = turns_begin (no_other_is (numbers c.args.self.now.sum) c.args.self.now.sum.target)

pub returns-in_err-write_unit : goal.returns-in_err-write_unit
returns-in_err-write_unit g c =
    let s = c.args.self.now.sum in
    let u = c.loop-sum.sum in
    turn_exit c.loop-sum.invariant (next_up_to s.target u (omega arith)) c.from_residual.result c.from_residual.ensures.1
    (unit_as g.P.Place _ (neg_ℤ (pos (s.first + (0 * (s.target + 1) + u)))) c.loop-sum.place c.write_unit.new.place _ (omega (arith, ints, c.total.ensures.is)) c.in_err-write_unit.ensures)

pub loop-sum-preserved : goal.loop-sum-preserved
loop-sum-preserved g c =
    let s = c.args.self.now.sum in
    let u = c.loop-sum.sum in
    turn_more c.loop-sum.invariant (next_up_to s.target u (omega arith))
    (unit_as g.P.Place _ (neg_ℤ (pos (s.first + (0 * (s.target + 1) + u)))) c.loop-sum.place c.write_unit.new.place _ (omega (arith, ints, c.total.ensures.is)) c.in_ok-write_unit.ensures)

pub returns-in_ok-write_unit : goal.returns-in_ok-write_unit
returns-in_ok-write_unit g c =
    let s = c.args.self.now.sum in
    let u = c.loop-sum.sum in
    turns_all
    (turn_more c.loop-sum.invariant (next_up_to s.target u (omega arith))
    (unit_as g.P.Place _ (neg_ℤ (pos (s.first + (0 * (s.target + 1) + u)))) c.loop-sum.place c.write_unit.new.place _ (omega (arith, ints, c.total.ensures.is)) c.in_ok-write_unit.ensures))
    (none_up_to s.target (u + 1) (omega arith))

pub returns : goal.returns
returns g c = turns_all c.loop-sum.invariant (none_up_to c.args.self.now.sum.target c.loop-sum.sum (omega arith))
