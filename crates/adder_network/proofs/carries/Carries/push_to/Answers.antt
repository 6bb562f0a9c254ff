use Rattle.std.proofs.Common.{◌+◌, ◌*◌, [], ◌∷◌, ◌++◌, sym, ap, ◌∙◌, append_assoc, arith}
use Rattle.std.proofs.lemmas.List.{map-append}
use Rattle.adder_network.specs.Variables.{numbers}
use Rattle.totals.specs.Numbers.{seconds}
use Rattle.totals.proofs.Numbers.{seconds_more}
use Rattle.adder_network.proofs.carries.Carries.push_to.Goals as goal

pub loop-index-preserved : goal.loop-index-preserved
loop-index-preserved c =
    let b = c.args.self.below + 1 in
    let i = c.loop-index.index in
    let inv = c.loop-index.invariant in
    let before = numbers c.args.line.now.items in (
      ap numbers c.push.ensures.items ∙ map-append (λ v. v.number) c.loop-index.line.items _ ∙ ap (λ l. l ++ (b + 2 * i) ∷ []) inv.0 ∙ append_assoc before (seconds b i) ((b + 2 * i) ∷ []) ∙ ap (λ l. before ++ l) (sym (seconds_more b i)),
      omega (arith, c.push.ensures.len, inv.1),
    )
