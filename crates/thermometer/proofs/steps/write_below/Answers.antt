use Rattle.std.proofs.Common.{◌+◌, arith}
use Rattle.places.proofs.Loops.{next_up_to, none_up_to, turn_exit, turn_more, turns_all, turns_begin}
use Rattle.boards.specs.Board.{side}
use Rattle.thermometer.proofs.Rising.{below_is}
use Rattle.thermometer.proofs.steps.write_below.Goals as goal

pub loop-digit-init : goal.loop-digit-init
loop-digit-init g c = λ f. turns_begin (below_is c.args.board.now f c.args.lower c.args.upper)

pub returns-in_err-write_digit_below : goal.returns-in_err-write_digit_below
returns-in_err-write_digit_below g c =
    λ f. turn_exit (c.loop-digit.invariant f) (next_up_to (side c.args.board.now) c.loop-digit.digit (omega arith)) c.from_residual.result c.from_residual.ensures.1
    (c.in_err-write_digit_below.ensures f)

pub loop-digit-preserved : goal.loop-digit-preserved
loop-digit-preserved g c = λ f. turn_more (c.loop-digit.invariant f) (next_up_to (side c.args.board.now) c.loop-digit.digit (omega arith)) (c.in_ok-write_digit_below.ensures f)

pub returns-in_ok-write_digit_below : goal.returns-in_ok-write_digit_below
returns-in_ok-write_digit_below g c =
    λ f. turns_all (turn_more (c.loop-digit.invariant f) (next_up_to (side c.args.board.now) c.loop-digit.digit (omega arith)) (c.in_ok-write_digit_below.ensures f))
    (none_up_to (side c.args.board.now) (c.loop-digit.digit + 1) (omega arith))
