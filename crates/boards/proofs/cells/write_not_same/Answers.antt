use Rattle.std.proofs.Common.{◌+◌, arith}
use Rattle.boards.specs.Board.{side}
use Rattle.places.proofs.Loops.{next_up_to, none_up_to, turn_exit, turn_more, turns_all, turns_begin}
use Rattle.boards.proofs.Loops.{same_is}
use Rattle.boards.proofs.cells.write_not_same.Goals as goal

pub loop-digit-init : goal.loop-digit-init
loop-digit-init g c = turns_begin (same_is c.args.board.now c.args.first c.args.second)

pub returns-in_err-write_not_both : goal.returns-in_err-write_not_both
returns-in_err-write_not_both g c =
    turn_exit c.loop-digit.invariant (next_up_to (side c.args.board.now) c.loop-digit.digit (omega arith)) c.from_residual.result c.from_residual.ensures.1 c.in_err-write_not_both.ensures

pub loop-digit-preserved : goal.loop-digit-preserved
loop-digit-preserved g c = turn_more c.loop-digit.invariant (next_up_to (side c.args.board.now) c.loop-digit.digit (omega arith)) c.in_ok-write_not_both.ensures

pub returns-in_ok-write_not_both : goal.returns-in_ok-write_not_both
returns-in_ok-write_not_both g c =
    turns_all (turn_more c.loop-digit.invariant (next_up_to (side c.args.board.now) c.loop-digit.digit (omega arith)) c.in_ok-write_not_both.ensures)
    (none_up_to (side c.args.board.now) (c.loop-digit.digit + 1) (omega arith))
