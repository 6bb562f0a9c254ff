use Rattle.std.proofs.Common.{◌+◌, ◌-◌, length, ap, ◌∙◌, ap₂, rules}
use Rattle.clause_text.specs.Writing.{cnf}
use Rattle.sum_text.proofs.Sums.{failed, success}
use Rattle.sum_text.proofs.writing.write_in.Goals as goal

pub returns-in_err-fresh : goal.returns-in_err-fresh
returns-in_err-fresh g c =
    failed g.T.Totaller.meaning c.args.sum.now c.as_slice.result.now c.as_slice-2.result.now c.open-place.result c.write.new.place
    (length c.args.room.now) c.as_slice.ensures.value c.as_slice-2.ensures.value c.open-place.ensures.holds c.open-place.ensures.room
    c.write.result c.write.ensures c.in_err-fresh.field-0.0 (λ e k. search rules) c.in_err-fresh.ensures.cases c.from_residual.result c.from_residual.ensures.1

pub overflow_sub-sum : goal.overflow_sub-sum
overflow_sub-sum g c =
    (success g.T.Totaller.meaning c.args.sum.now c.as_slice.result.now c.as_slice-2.result.now c.open-place.result c.write.new.place
    (length c.args.room.now) c.as_slice.ensures.value c.as_slice-2.ensures.value c.open-place.ensures.holds c.open-place.ensures.room
    c.write.result c.write.ensures c.in_ok-fresh.fresh (λ e none. none) c.in_ok-fresh.ensures.cases).positive

pub returns : goal.returns
returns g c =
    let s =
    success g.T.Totaller.meaning c.args.sum.now c.as_slice.result.now c.as_slice-2.result.now c.open-place.result c.write.new.place
    (length c.args.room.now) c.as_slice.ensures.value c.as_slice-2.ensures.value c.open-place.ensures.holds c.open-place.ensures.room
    c.write.result c.write.ensures c.in_ok-fresh.fresh (λ e none. none) c.in_ok-fresh.ensures.cases in
    (s.fault, c.in_ok-text.ensures ∙ ap₂ cnf (ap (λ k. c.args.sum.now.first - 1 + k) s.counted) s.holds)
