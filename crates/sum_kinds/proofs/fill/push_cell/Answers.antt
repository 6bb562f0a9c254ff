use Rattle.std.proofs.Common.{◌+◌, ◌*◌, [], ◌∷◌, ◌++◌, ap, ◌∙◌, arith}
use Rattle.boards.specs.Board.{side}
use Rattle.sum_kinds.proofs.Filling.{cell_named, digits_named, pushing_done, pushing_more, pushing_room}
use Rattle.sum_kinds.proofs.fill.push_cell.Goals as goal

pub push-requires : goal.push-requires
push-requires c =
    pushing_room (λ d. c.args.cell * side c.args.board.now + d) (λ d. d) (side c.args.board.now) c.args.items.now c.loop-digit.digit c.loop-digit.items c.loop-digit.invariant (omega arith) c.requires

pub loop-digit-preserved : goal.loop-digit-preserved
loop-digit-preserved c =
    pushing_more (λ d. c.args.cell * side c.args.board.now + d) (λ d. d) (side c.args.board.now) c.args.items.now c.loop-digit.digit c.loop-digit.items c.loop-digit.invariant (omega arith) c.push.new.self
    (c.push.ensures.0 ∙ ap (λ v. c.loop-digit.items.variables.items ++ v ∷ []) c.variable.ensures.value, c.push.ensures.1)

pub returns-2 : goal.returns-2
returns-2 c =
    let b = c.args.board.now in
    let more =
    pushing_more (λ d. c.args.cell * side c.args.board.now + d) (λ d. d) (side b) c.args.items.now c.loop-digit.digit c.loop-digit.items c.loop-digit.invariant (omega arith) c.push.new.self
    (c.push.ensures.0 ∙ ap (λ v. c.loop-digit.items.variables.items ++ v ∷ []) c.variable.ensures.value, c.push.ensures.1) in
    digits_named (side b) c.args.items.now _ c.push.new.self (cell_named b c.args.cell (side b) c.args.items.now _ c.push.new.self
    (pushing_done (λ d. c.args.cell * side c.args.board.now + d) (λ d. d) (side b) c.args.items.now (c.loop-digit.digit + 1) c.push.new.self more (omega arith)))
