use Rattle.std.proofs.Common.{[], slice_index_or, ap, ◌∙◌, rules, tests, Some, None}
use Rattle.std.proofs.lemmas.Iterator.Consumers.{nth_from_yields_List}
use Rattle.std.proofs.lemmas.Iterator.Splits.{YieldsList-from_slice_split}
use Rattle.desk.specs.DraftText.{code_of, words_of, lines_of}
use Rattle.desk.specs.Rest.{first}
use Rattle.spelling.specs.Text.{is_line_feed}
use Rattle.desk.proofs.Chains.{at_index}
use Rattle.desk.proofs.words.statement_word.Goals as goal

pub returns-in-Some : goal.returns-in-Some
returns-in-Some c =
    let at =
    at_index (lines_of c.args.text.now) c.saturating_sub.result c.nth.result (Some c.in-Some.bytes)
    (nth_from_yields_List _ _ _ c.nth.ensures.ran
    (YieldsList-from_slice_split _ is_line_feed c.args.text.now c.split.ensures.rest c.split.ensures.done c.split.ensures.closure (λ x r q k. search (rules, tests)))) c.in-Some.is in
    c.first_word.ensures ∙ ap (λ l. first (words_of (code_of l))) (at ∙ ap (λ k. slice_index_or (lines_of c.args.text.now) k []) c.saturating_sub.ensures)

pub returns-in-None : goal.returns-in-None
returns-in-None c =
    let at =
    at_index (lines_of c.args.text.now) c.saturating_sub.result c.nth.result None
    (nth_from_yields_List _ _ _ c.nth.ensures.ran
    (YieldsList-from_slice_split _ is_line_feed c.args.text.now c.split.ensures.rest c.split.ensures.done c.split.ensures.closure (λ x r q k. search (rules, tests)))) c.in-None.is in
    ap (λ l. first (words_of (code_of l))) (at ∙ ap (λ k. slice_index_or (lines_of c.args.text.now) k []) c.saturating_sub.ensures)
