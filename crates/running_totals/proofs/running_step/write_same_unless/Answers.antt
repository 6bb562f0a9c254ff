use Rattle.std.proofs.Common.{[], ◌∷◌, pos, neg_ℤ, subst, arith}
use Rattle.std.specs.Result.{result_err}
use Rattle.std.proofs.lemmas.Int.{ints}
use Rattle.places.specs.Written.{Writes}
use Rattle.places.proofs.Written.{writes_exit, writes_put, writes_stops, writes_then}
use Rattle.formulas.proofs.Valid.{usable_is, usable_not, valid_three}
use Rattle.running_totals.proofs.Sums.{same_three}
use Rattle.running_totals.proofs.running_step.write_same_unless.Goals as goal

pub returns-in_err-put : goal.returns-in_err-put
returns-in_err-put g c =
    let u = c.args.unless in
    let a = c.args.one in
    let b = c.args.other in
    let p = c.args.place.now in
    let q = c.put.new.self in
    let one = writes_put g.P.Place _ (u ∷ neg_ℤ (pos a) ∷ pos b ∷ []) (same_three (omega (arith, ints)) (omega (arith, ints)) (omega (arith, ints)))
    (valid_three u (neg_ℤ (pos a)) (pos b) c.requires.unless (usable_not a (omega arith) (omega arith)) (usable_is b (omega arith) (omega arith))) p q c.put.result
    c.put.ensures.fault c.put.ensures.holds c.put.ensures.room in
    writes_exit g.P.Place _ p q _ c.from_residual.result c.from_residual.ensures.1
    (writes_stops g.P.Place ((u ∷ neg_ℤ (pos a) ∷ pos b ∷ []) ∷ []) ((u ∷ pos a ∷ neg_ℤ (pos b) ∷ []) ∷ []) p q _
    (subst (λ o. Writes g.P.Place ((u ∷ neg_ℤ (pos a) ∷ pos b ∷ []) ∷ []) p q (result_err o)) c.in_err-put.was one))

pub returns : goal.returns
returns g c =
    let u = c.args.unless in
    let a = c.args.one in
    let b = c.args.other in
    let p = c.args.place.now in
    let q = c.put.new.self in
    let r = c.put-2.new.self in
    let one = writes_put g.P.Place _ (u ∷ neg_ℤ (pos a) ∷ pos b ∷ []) (same_three (omega (arith, ints)) (omega (arith, ints)) (omega (arith, ints)))
    (valid_three u (neg_ℤ (pos a)) (pos b) c.requires.unless (usable_not a (omega arith) (omega arith)) (usable_is b (omega arith) (omega arith))) p q c.put.result
    c.put.ensures.fault c.put.ensures.holds c.put.ensures.room in
    let two = writes_put g.P.Place _ (u ∷ pos a ∷ neg_ℤ (pos b) ∷ []) (same_three (omega (arith, ints)) (omega (arith, ints)) (omega (arith, ints)))
    (valid_three u (pos a) (neg_ℤ (pos b)) c.requires.unless (usable_is a (omega arith) (omega arith)) (usable_not b (omega arith) (omega arith))) q r c.put-2.result
    c.put-2.ensures.fault c.put-2.ensures.holds c.put-2.ensures.room in
    writes_then g.P.Place ((u ∷ neg_ℤ (pos a) ∷ pos b ∷ []) ∷ []) ((u ∷ pos a ∷ neg_ℤ (pos b) ∷ []) ∷ []) p q r _
    (subst (λ o. Writes g.P.Place ((u ∷ neg_ℤ (pos a) ∷ pos b ∷ []) ∷ []) p q (result_err o)) c.in_ok-put.was one) two
