use Rattle.std.proofs.Common.{get_or, vec_items, sym, refl, ap, ◌∙◌, arith}
use Rattle.part_text.proofs.Words.{more_cells}
use Rattle.part_text.proofs.read.read_cells.Goals as goal

pub loop-word-preserved : goal.loop-word-preserved
loop-word-preserved c =
    let old = c.loop-word.invariant in
    let one = c.in_ok-push.ensures.by_index in (
      omega (arith, old.0, c.in_ok-push.ensures.len),
      more_cells c.args.words.now c.loop-word.word-index c.in_ok-read_word.field-0 (vec_items c.loop-word.body) (vec_items c.push.new.self)
          old.1 c.in_ok-read_word.ensures.0
          (λ k l. one.0 k 0 (omega (arith, old.0))) (ap (λ i. get_or (vec_items c.push.new.self) i 0) (sym old.0) ∙ one.1 0 refl),
    )
