use Rattle.std.proofs.Common.{arith}
use Rattle.std.proofs.lemmas.List.{drop_all, drop_more}
use Rattle.places.proofs.Loops.{turn_exit, turn_more, turns_all, turns_begin}
use Rattle.boards.proofs.Loops.{differs_is}
use Rattle.boards.proofs.cells.write_differs.Goals as goal

pub loop-other-init : goal.loop-other-init
loop-other-init g c = turns_begin (differs_is c.args.board.now c.args.cell c.args.others.now)

pub returns-in_err-write_not_same : goal.returns-in_err-write_not_same
returns-in_err-write_not_same g c =
    turn_exit c.loop-other.invariant (drop_more c.args.others.now c.loop-other.other-index 0 (omega arith)) c.from_residual.result c.from_residual.ensures.1
    c.in_err-write_not_same.ensures

pub loop-other-preserved : goal.loop-other-preserved
loop-other-preserved g c =
    turn_more c.loop-other.invariant (drop_more c.args.others.now c.loop-other.other-index 0 (omega arith)) c.in_ok-write_not_same.ensures

pub returns : goal.returns
returns g c = turns_all c.loop-other.invariant (drop_all c.loop-other.other-index c.args.others.now (omega arith))
