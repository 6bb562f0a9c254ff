use Rattle.std.proofs.Common.{get_or, vec_items, sym, refl, ap, ◌∙◌, arith}
use lib.ListN.{length-map}
use Rattle.sum_text.proofs.Faults.{first_item}
use Rattle.sum_text.proofs.Words.{more_items}
use Rattle.sum_text.proofs.read.read_items.Goals as goal

pub loop-word-preserved : goal.loop-word-preserved
loop-word-preserved c =
    let old = c.loop-word.invariant in
    let one = c.in_ok-push.ensures.by_index in
    let two = c.in_ok-push-2.ensures.by_index in (
      omega (arith, old.0, c.in_ok-push.ensures.len),
      omega (arith, old.1, c.in_ok-push-2.ensures.len),
      more_items c.args.words.now c.loop-word.word-index c.in_ok-variable.variable c.in_ok-variable.weight
          (vec_items c.loop-word.variables) (vec_items c.loop-word.weights) (vec_items c.push.new.self) (vec_items c.push-in-loop-word.new.self)
          old.2 c.in_ok-variable.ensures
          (λ k l. one.0 k 0 (omega (arith, old.0))) (ap (λ i. get_or (vec_items c.push.new.self) i 0) (sym old.0) ∙ one.1 0 refl)
          (λ k l. two.0 k 0 (omega (arith, old.1))) (ap (λ i. get_or (vec_items c.push-in-loop-word.new.self) i 0) (sym old.1) ∙ two.1 0 refl),
    )

pub returns : goal.returns
returns c =
    let old = c.loop-word.invariant in
    let n = length-map c.args.words.now (λ x. x.now) in
    record {
      variable_count = omega (arith, n, old.0, c.loop-word.variables.ok.0);
      weight_count = omega (arith, n, old.1, c.loop-word.weights.ok.0);
      each = λ k l. old.2 k (omega (arith, n));
    }

pub returns-in_err-variable : goal.returns-in_err-variable
returns-in_err-variable c =
    first_item c.args.words.now c.loop-word.word-index (vec_items c.loop-word.variables) (vec_items c.loop-word.weights)
    c.in_err-variable.field-0.0 c.from_residual.result (omega arith) c.loop-word.invariant.2 c.in_err-variable.ensures c.from_residual.ensures.1
