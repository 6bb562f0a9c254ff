use Rattle.std.proofs.Common.{ap, sym, ◌∙◌, rules, tests}
use Rattle.std.specs.List.{slice_split}
use Rattle.std.proofs.lemmas.Iterator.Splits.{YieldsList-from_slice_split}
use Rattle.desk.specs.DraftText.{hash}
use Rattle.desk.specs.Rest.{first}
use Rattle.desk.proofs.Chains.{first_left, first_part}
use Rattle.desk.proofs.words.without_comment.Goals as goal

pub returns : goal.returns
returns c =
    let line = c.args.line.now in
    let parts =
    first_left (slice_split hash line) _ _ _ c.next.ensures.steps c.unwrap.ensures
    (YieldsList-from_slice_split _ hash line c.split.ensures.rest c.split.ensures.done c.split.ensures.closure (λ x r q k. search (rules, tests))) in
    sym (ap first parts.0) ∙ first_part hash line
