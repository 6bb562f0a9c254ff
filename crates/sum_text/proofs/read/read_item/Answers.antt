use Rattle.sum_text.proofs.Faults.{no_item, no_parts, parts, unread}
use Rattle.sum_text.proofs.read.read_item.Goals as goal

pub returns-in_err-variable : goal.returns-in_err-variable
returns-in_err-variable c =
    no_item c.args.word c.from_residual.result c.in_err-variable.field-0.0 c.split_once.result c.from_residual.ensures.1
    c.in_err-variable.ensures.value (no_parts c.args.word.now c.split_once.result c.split_once.ensures.cases)

pub returns-in_err-variable-2 : goal.returns-in_err-variable-2
returns-in_err-variable-2 c =
    let front = c.in_ok-variable.variable in
    let told = c.in_err-variable-2.ensures in
    unread c.args.word c.from_residual-in_err-variable-2.result c.in_err-variable-2.field-0.0 c.from_residual-in_err-variable-2.ensures.1 told.0
    (λ v k item. told.2.0 (parts c.args.word.now c.split_once.result front c.in_ok-variable.weight c.split_once.ensures.cases c.in_ok-variable.ensures.ok_part v k item).0.0)

pub returns-in_err-weight : goal.returns-in_err-weight
returns-in_err-weight c =
    let back = c.in_ok-variable.weight in
    let told = c.in_err-weight.ensures in
    unread c.args.word c.from_residual-in_err-weight.result c.in_err-weight.field-0.0 c.from_residual-in_err-weight.ensures.1 told.0
    (λ v k item. told.2.0 (parts c.args.word.now c.split_once.result c.in_ok-variable.variable back c.split_once.ensures.cases c.in_ok-variable.ensures.ok_part v k item).1.0)
