use Rattle.std.proofs.Common.{ap}
use Rattle.std.proofs.lemmas.List.{nil_from_length}
use Rattle.places.proofs.Loops.{turn_exit, turn_more, turns_all, turns_begin}
use Rattle.boards.proofs.Loops.{repeat_is, tails}
use Rattle.boards.proofs.cells.write_no_repeat.Goals as goal

pub loop-cell-init : goal.loop-cell-init
loop-cell-init g c = turns_begin (repeat_is c.args.board.now c.args.cells.now)

pub returns-in_err-write_differs : goal.returns-in_err-write_differs
returns-in_err-write_differs g c =
    turn_exit c.loop-cell.invariant (ap tails c.in-Some.ensures.cases.0) c.from_residual.result c.from_residual.ensures.1 c.in_err-write_differs.ensures

pub loop-cell-preserved : goal.loop-cell-preserved
loop-cell-preserved g c = turn_more c.loop-cell.invariant (ap tails c.in-Some.ensures.cases.0) c.in_ok-write_differs.ensures

pub returns : goal.returns
returns g c = turns_all c.loop-cell.invariant (ap tails (nil_from_length c.loop-cell.rest.now c.in_default.ensures.cases))
