use Rattle.std.proofs.Common.{◌+◌, subst, arith}
use Rattle.std.specs.Result.{result_err}
use Rattle.std.proofs.lemmas.Int.{ints}
use Rattle.places.specs.Written.{Writes}
use Rattle.boards.specs.Board.{side}
use Rattle.places.proofs.Loops.{next_up_to, none_up_to, turn_exit, turn_more, turns_all, turns_begin}
use Rattle.clone_pair.proofs.Turns.{same_is, turn, turn_put}
use Rattle.clone_pair.proofs.same.write_same.Goals as goal

pub loop-digit-init : goal.loop-digit-init
loop-digit-init g c =
    λ f. turns_begin (same_is c.args.board.now c.args.one c.args.other f)

pub returns-in_err-put : goal.returns-in_err-put
returns-in_err-put g c =
    let b = c.args.board.now in
    let one = c.args.one in
    let other = c.args.other in
    let d = c.loop-digit.digit in
    let p = c.loop-digit.place in
    let q = c.put.new.self in
    let put = turn_put b one other g.P.Place d (omega arith) _ _ c.variable-one.result c.variable-other.result c.variable-one.ensures.value c.variable-other.ensures.value
    (omega arith) (omega arith) (omega (arith, ints)) (omega (arith, ints)) p q c.put.result c.put.ensures.fault c.put.ensures.holds c.put.ensures.room in
    λ f. turn_exit (c.loop-digit.invariant f) (next_up_to (side b) d (omega arith)) c.from_residual.result c.from_residual.ensures.1
    (subst (λ o. Writes g.P.Place (turn b one other d) p q (result_err o)) c.in_err-put.was put)

pub loop-digit-preserved : goal.loop-digit-preserved
loop-digit-preserved g c =
    let b = c.args.board.now in
    let one = c.args.one in
    let other = c.args.other in
    let d = c.loop-digit.digit in
    let p = c.loop-digit.place in
    let q = c.put.new.self in
    let put = turn_put b one other g.P.Place d (omega arith) _ _ c.variable-one.result c.variable-other.result c.variable-one.ensures.value c.variable-other.ensures.value
    (omega arith) (omega arith) (omega (arith, ints)) (omega (arith, ints)) p q c.put.result c.put.ensures.fault c.put.ensures.holds c.put.ensures.room in
    λ f. turn_more (c.loop-digit.invariant f) (next_up_to (side b) d (omega arith))
    (subst (λ o. Writes g.P.Place (turn b one other d) p q (result_err o)) c.in_ok-put.was put)

pub returns-in_ok-put : goal.returns-in_ok-put
returns-in_ok-put g c =
    let b = c.args.board.now in
    let one = c.args.one in
    let other = c.args.other in
    let d = c.loop-digit.digit in
    let p = c.loop-digit.place in
    let q = c.put.new.self in
    let put = turn_put b one other g.P.Place d (omega arith) _ _ c.variable-one.result c.variable-other.result c.variable-one.ensures.value c.variable-other.ensures.value
    (omega arith) (omega arith) (omega (arith, ints)) (omega (arith, ints)) p q c.put.result c.put.ensures.fault c.put.ensures.holds c.put.ensures.room in
    λ f. turns_all
    (turn_more (c.loop-digit.invariant f) (next_up_to (side b) d (omega arith))
    (subst (λ o. Writes g.P.Place (turn b one other d) p q (result_err o)) c.in_ok-put.was put)) (none_up_to (side b) (d + 1) (omega arith))
