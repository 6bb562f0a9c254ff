use Rattle.std.proofs.Common.{◌≡◌, ◌+◌, ◌/◌, sym, ap, ◌∙◌, arith}
use Rattle.totals.specs.Numbers.{adders_in, count_from}
use Rattle.totals.proofs.Numbers.{count_last, count_more, few_adders, with_bit_few}
use Rattle.adder_network.proofs.lines.count_adders.Goals as goal

pub overflow_add-carries : goal.overflow_add-carries
overflow_add-carries c =
    let inv = c.loop-index.invariant in
    omega (arith, inv.1, c.count_with_bit.ensures, with_bit_few (λ i. i) c.loop-index.index 0 c.args.weights.now, c.requires)

pub loop-index-preserved : goal.loop-index-preserved
loop-index-preserved c =
    let ws = c.args.weights.now in
    let k = c.loop-index.index in
    let inv = c.loop-index.invariant in
    let h = (c.count_with_bit.result + c.loop-index.carries) / 2 in
    let is_in : h ≡ adders_in k ws c.loop-index.carries = ap (λ n. (n + c.loop-index.carries) / 2) c.count_with_bit.ensures in
    let more : count_from ws k c.loop-index.carries ≡ h + count_from ws (k + 1) h = count_more ws k c.loop-index.carries c.loop-index-test.true ∙ ap (λ n. n + count_from ws (k + 1) n) (sym is_in) in
    let few = few_adders ws k c.loop-index.carries c.requires inv.1 in
    (omega (arith, more, inv.0), omega (arith, is_in, few), omega (arith, is_in, few, inv.2))

pub returns : goal.returns
returns c =
    let inv = c.loop-index.invariant in
    let last : c.loop-index.index ≡ 11 = omega (arith, c.loop-index-test.false, c.loop-index.auto.index-end) in
    (omega (arith, inv.0, ap (λ k. count_from c.args.weights.now k c.loop-index.carries) last, count_last c.args.weights.now c.loop-index.carries), omega (arith, inv.2, last))
