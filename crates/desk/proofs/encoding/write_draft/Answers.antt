use Rattle.std.proofs.Common.{◌++◌, length, ap, ap₂, ◌∙◌, arith}
use Rattle.spelling.specs.Text.{spelled_text}
use Rattle.text_place.specs.Meaning.{held_text}
use Rattle.clause_text.specs.Writing.{cnf}
use Rattle.desk.proofs.Encodings.{opened_as, headed, is_there}
use Rattle.desk.proofs.encoding.write_draft.Goals as goal

pub unwrap-len-requires : goal.unwrap-len-requires
unwrap-len-requires c =
    let d = c.in_ok-draft.draft in
    is_there d.variables (length (held_text c.open.new.place)) (omega (arith, d.few)) c.heading.ensures.few c.heading.result c.heading.ensures.value

pub returns : goal.returns
returns c =
    let d = c.in_ok-draft.draft in
    let held = held_text c.open.new.place in
    let (board, variables, holds) = opened_as _ (λ e none. none) c.args.side c.open-place.result c.open.new.place c.open.result d c.in_ok-draft.ensures.cases c.open.ensures.opened in
    let front =
    headed d.variables (length held) (omega (arith, d.few)) c.heading.ensures.few c.heading.result c.heading.ensures.value c.unwrap-len.result
    c.heading.new.buffer c.unwrap-len.ensures c.heading.ensures.after in
    (d.board, board, c.in_ok-text.ensures ∙ ap (λ l. l ++ spelled_text held) front ∙ ap₂ cnf variables holds)
