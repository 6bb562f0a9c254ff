use Rattle.std.proofs.Common.{◌+◌, ◌*◌, leb, [], ◌∷◌, get_or, pos, neg_ℤ, sym, subst, arith}
use Rattle.std.specs.Result.{result_err}
use Rattle.std.proofs.lemmas.Int.{ints}
use Rattle.std.proofs.lemmas.Bool.{cond-true, cond-false, le-leb, lt-leb}
use Rattle.formulas.specs.Numbered.{numbered}
use Rattle.places.specs.Written.{Writes}
use Rattle.places.proofs.Written.{writes_put}
use Rattle.running_totals.specs.Room.{numbers}
use Rattle.formulas.proofs.Valid.{usable_not, valid_two}
use Rattle.running_totals.proofs.Sums.{both_as, same_two}
use Rattle.running_totals.proofs.running_step.Step.write_with_item.Goals as goal

pub returns-then-self-weight : goal.returns-then-self-weight
returns-then-self-weight g c =
    let step = c.args.self.now in
    let p = c.args.place.now in
    let q = c.write_same_unless.new.place in
    let x = get_or step.table.sum.variables.now step.index 0 in
    let h = step.table.room.items step.index step.item in
    let yes = le-leb step.weight step.sum c.if-self-weight.true in
    subst (λ f. Writes g.P.Place (numbered (numbers step.table.sum) f) p q (result_err c.write_same_unless.result))
    (sym (cond-true (leb step.weight step.sum) _ _ yes))
    (both_as g.P.Place _ (neg_ℤ (pos x)) _ _ _ _ p q _ (omega (arith, ints)) c.total-reached.ensures.is c.total-before.ensures.is c.write_same_unless.ensures)

pub returns-else-self-weight : goal.returns-else-self-weight
returns-else-self-weight g c =
    let step = c.args.self.now in
    let p = c.args.place.now in
    let q = c.put.new.self in
    let x = get_or step.table.sum.variables.now step.index 0 in
    let h = step.table.room.items step.index step.item in
    let y = step.table.sum.first + ((step.index + 1) * (step.table.sum.target + 1) + step.sum) in
    let reached = c.total-reached.ensures in
    let no = lt-leb step.weight step.sum c.if-self-weight.false in
    subst (λ f. Writes g.P.Place (numbered (numbers step.table.sum) f) p q (result_err c.put.result))
    (sym (cond-false (leb step.weight step.sum) _ _ no))
    (writes_put g.P.Place _ (neg_ℤ (pos x) ∷ neg_ℤ (pos y) ∷ []) (same_two (omega (arith, ints)) (omega (arith, ints, reached.is)))
    (valid_two (neg_ℤ (pos x)) (neg_ℤ (pos y)) (usable_not x h.0 h.1) (usable_not y (omega arith) (omega arith))) p q c.put.result
    c.put.ensures.fault c.put.ensures.holds c.put.ensures.room)
