use Rattle.std.proofs.Common.{length}
use Rattle.places.proofs.Loops.{next_below, none_below, turn_exit, turn_more, turns_all, turns_begin}
use Rattle.givens.proofs.Stated.{stated_is}
use Rattle.givens.proofs.characters.write_digits.Goals as goal

pub loop-index-init : goal.loop-index-init
loop-index-init g c = λ f. turns_begin (stated_is c.args.board.now f c.args.body.now)

pub returns-in_err-write_digit : goal.returns-in_err-write_digit
returns-in_err-write_digit g c =
    λ f. turn_exit (c.loop-index.invariant f) (next_below (length c.args.body.now) c.loop-index.index c.loop-index-test.true) c.from_residual.result c.from_residual.ensures.1
    (c.in_err-write_digit.ensures f)

pub loop-index-preserved : goal.loop-index-preserved
loop-index-preserved g c =
    λ f. turn_more (c.loop-index.invariant f) (next_below (length c.args.body.now) c.loop-index.index c.loop-index-test.true) (c.in_ok-write_digit.ensures f)

pub returns : goal.returns
returns g c = λ f. turns_all (c.loop-index.invariant f) (none_below (length c.args.body.now) c.loop-index.index c.loop-index-test.false)
