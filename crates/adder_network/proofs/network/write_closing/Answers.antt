use Rattle.std.proofs.Common.{length}
use Rattle.places.proofs.Loops.{next_below, none_below, turn_exit, turn_more, turns_all, turns_begin}
use Rattle.adder_network.proofs.Closing.{closing_is, line_as}
use Rattle.adder_network.proofs.network.write_closing.Goals as goal

pub loop-index-init : goal.loop-index-init
loop-index-init g c = turns_begin (closing_is c.args.item.number c.args.target c.args.bits.now)

pub returns-in_err-write_bit : goal.returns-in_err-write_bit
returns-in_err-write_bit g c =
    let k = c.loop-index.index in
    turn_exit c.loop-index.invariant (next_below (length c.args.bits.now) k c.loop-index-test.true) c.from_residual.result c.from_residual.ensures.1
    (line_as c.args.item.number c.args.target c.args.bits.now g.P.Place k c.is_in.result c.index-bits-index.result c.loop-index.place c.write_bit.new.place _ c.is_in.ensures c.loop-index-test.true c.index-bits-index.is c.in_err-write_bit.ensures)

pub loop-index-preserved : goal.loop-index-preserved
loop-index-preserved g c =
    let k = c.loop-index.index in
    turn_more c.loop-index.invariant (next_below (length c.args.bits.now) k c.loop-index-test.true)
    (line_as c.args.item.number c.args.target c.args.bits.now g.P.Place k c.is_in.result c.index-bits-index.result c.loop-index.place c.write_bit.new.place _ c.is_in.ensures c.loop-index-test.true c.index-bits-index.is c.in_ok-write_bit.ensures)

pub returns : goal.returns
returns g c = turns_all c.loop-index.invariant (none_below (length c.args.bits.now) c.loop-index.index c.loop-index-test.false)
