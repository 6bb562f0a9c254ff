use Rattle.std.proofs.Common.{replicate, is_some, refl, ap, ◌∙◌, arith}
use Rattle.clause_text.proofs.Headings.{chosen}
use Rattle.clause_text.proofs.writing.clause_text.Goals as goal

pub unwrap-len-requires : goal.unwrap-len-requires
unwrap-len-requires c = ap is_some (c.write_heading.ensures.value ∙ chosen c.args.last c.count.result (omega arith) (omega arith) (replicate 48 0) refl _ _)
