use Rattle.std.proofs.Common.{sym, rules}
use Rattle.sum_text.proofs.Faults.{no_first, no_items, wrong}
use Rattle.sum_text.proofs.read.read_sum.Goals as goal

pub returns-in_err-first : goal.returns-in_err-first
returns-in_err-first c =
    let x = c.in_err-first.field-0.0 in
    let told = c.in_err-first.ensures in
    wrong x c.args.words.now c.from_residual-in_err-first.result (search rules) c.from_residual-in_err-first.ensures.1
    (no_first _ _ _ _ x (_, sym c.in_ok-method.ensures) (_, c.in_ok-target.ensures.0) (told.0, λ n. told.2.0 n.1.0))

pub returns-in_err-variables : goal.returns-in_err-variables
returns-in_err-variables c =
    let x = c.in_err-variables.field-0.0 in
    wrong x c.args.words.now c.from_residual-in_err-variables.result (search rules) c.from_residual-in_err-variables.ensures.1
    (no_items _ _ _ _ x (_, sym c.in_ok-method.ensures) (_, c.in_ok-target.ensures.0) (_, c.in_ok-first.ensures.0) c.in_err-variables.ensures)
