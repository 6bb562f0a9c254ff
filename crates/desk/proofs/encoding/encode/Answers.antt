use Rattle.std.proofs.Common.{sym, ◌∙◌, rules}
use Rattle.desk.proofs.Encodings.{encoded}
use Rattle.desk.proofs.encoding.encode.Goals as goal

pub returns : goal.returns
returns c =
    encoded c.args.text.now c.in_ok-said.said (sym c.in_ok-said.ensures) _ (c.as_mut_slice.ensures.len ∙ c.in_ok-room.ensures.len)
    c.write_draft.result c.map_err.result c.write_draft.ensures c.map_err.ensures.cases (λ e x k. search rules)
