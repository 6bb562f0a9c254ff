use Rattle.std.proofs.Common.{ℕ, ◌+◌, subst, arith}
use Rattle.std.specs.Result.{result_err}
use Rattle.std.proofs.lemmas.Int.{ints}
use Rattle.places.specs.Written.{Writes}
use Rattle.places.proofs.Loops.{next_up_to, none_up_to, turn_exit, turn_more, turns_all, turns_begin}
use Rattle.thermometer.proofs.Rising.{digit_is, pair_put, pair_turn}
use Rattle.thermometer.proofs.steps.write_digit_below.Goals as goal

pub loop-other-init : goal.loop-other-init
loop-other-init g c =
    λ f. turns_begin (digit_is c.args.board.now f c.args.lower c.args.upper c.args.digit)

pub returns-in_err-put : goal.returns-in_err-put
returns-in_err-put g c =
    let b = c.args.board.now in
    let lo = c.args.lower in
    let up = c.args.upper in
    let d = c.args.digit in
    let e = c.loop-other.other in
    let one = λ (f : ℕ). pair_put g.P.Place b f lo up d e (omega arith) (omega arith) _ _ c.variable-lower.result c.variable-upper.result
    c.variable-lower.ensures.value c.variable-upper.ensures.value (omega arith) (omega arith)
    (omega (arith, ints)) (omega (arith, ints)) c.loop-other.place c.put.new.self c.put.result c.put.ensures.fault c.put.ensures.holds c.put.ensures.room in
    λ f. turn_exit (c.loop-other.invariant f) (next_up_to d e (omega arith)) c.from_residual.result c.from_residual.ensures.1
    (subst (λ o. Writes g.P.Place (pair_turn b f lo up d e) c.loop-other.place c.put.new.self (result_err o)) c.in_err-put.was (one f))

pub loop-other-preserved : goal.loop-other-preserved
loop-other-preserved g c =
    let b = c.args.board.now in
    let lo = c.args.lower in
    let up = c.args.upper in
    let d = c.args.digit in
    let e = c.loop-other.other in
    let one = λ (f : ℕ). pair_put g.P.Place b f lo up d e (omega arith) (omega arith) _ _ c.variable-lower.result c.variable-upper.result
    c.variable-lower.ensures.value c.variable-upper.ensures.value (omega arith) (omega arith)
    (omega (arith, ints)) (omega (arith, ints)) c.loop-other.place c.put.new.self c.put.result c.put.ensures.fault c.put.ensures.holds c.put.ensures.room in
    λ f. turn_more (c.loop-other.invariant f) (next_up_to d e (omega arith))
    (subst (λ o. Writes g.P.Place (pair_turn b f lo up d e) c.loop-other.place c.put.new.self (result_err o)) c.in_ok-put.was (one f))

pub returns-in_ok-put : goal.returns-in_ok-put
returns-in_ok-put g c =
    let b = c.args.board.now in
    let lo = c.args.lower in
    let up = c.args.upper in
    let d = c.args.digit in
    let e = c.loop-other.other in
    let one = λ (f : ℕ). pair_put g.P.Place b f lo up d e (omega arith) (omega arith) _ _ c.variable-lower.result c.variable-upper.result
    c.variable-lower.ensures.value c.variable-upper.ensures.value (omega arith) (omega arith)
    (omega (arith, ints)) (omega (arith, ints)) c.loop-other.place c.put.new.self c.put.result c.put.ensures.fault c.put.ensures.holds c.put.ensures.room in
    λ f. turns_all
    (turn_more (c.loop-other.invariant f) (next_up_to d e (omega arith))
    (subst (λ o. Writes g.P.Place (pair_turn b f lo up d e) c.loop-other.place c.put.new.self (result_err o)) c.in_ok-put.was (one f)))
    (none_up_to d (e + 1) (omega arith))
