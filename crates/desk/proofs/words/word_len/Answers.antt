use Rattle.std.proofs.Common.{ℕ, Bool, not, arith, rules, tests}
use Rattle.std.proofs.lemmas.Iterator.{YieldsList-from_slice}
use Rattle.std.proofs.lemmas.Iterator.Search.{position_from_yields_List}
use Rattle.std.proofs.lemmas.List.Sums.{prefix_len-le-length}
use Rattle.desk.specs.DraftText.{blank}
use Rattle.desk.proofs.Pieces.{first_at}
use Rattle.desk.proofs.words.word_len.Goals as goal

pub returns : goal.returns
returns c =
    let bytes = c.args.bytes.now in
    let q : ℕ → Bool = blank in
    let p = position_from_yields_List q _ _ c.position.result c.position.ensures.ran (YieldsList-from_slice bytes cc) (λ x b r k. search (rules, tests)) in
    let at = first_at q bytes c.position.result c.unwrap_or.result p c.unwrap_or.ensures in
    record { value = at; within = omega (arith, at, prefix_len-le-length (λ x. not (q x)) bytes) }
