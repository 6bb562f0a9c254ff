use Rattle.std.proofs.Common.{◌+◌, ◌-◌, ◌*◌, [], ◌∷◌, ◌++◌, ap, ◌∙◌, arith}
use Rattle.boards.specs.Board.{side}
use Rattle.sum_kinds.proofs.Filling.{cell_named, pushing_done, pushing_more, pushing_room}
use Rattle.sum_kinds.proofs.fill.push_circle.Goals as goal

pub push-requires : goal.push-requires
push-requires c =
    pushing_room (λ d. c.args.cell * side c.args.board.now + d) (λ d. side c.args.board.now - d) (side c.args.board.now - 1) c.args.items.now c.loop-digit.digit c.loop-digit.items c.loop-digit.invariant (omega arith) (omega arith)

pub loop-digit-preserved : goal.loop-digit-preserved
loop-digit-preserved c =
    let now = c.loop-digit.items in
    pushing_more (λ d. c.args.cell * side c.args.board.now + d) (λ d. side c.args.board.now - d) (side c.args.board.now - 1) c.args.items.now c.loop-digit.digit now c.loop-digit.invariant (omega arith) c.push.new.self
    (c.push.ensures.0 ∙ ap (λ v. now.variables.items ++ v ∷ []) c.variable.ensures.value, c.push.ensures.1 ∙ ap (λ s. now.weights.items ++ (s - c.loop-digit.digit) ∷ []) c.side-side.ensures.value)

pub returns : goal.returns
returns c =
    let b = c.args.board.now in
    cell_named b c.args.cell (side b - 1) c.args.items.now _ c.loop-digit.items
    (pushing_done (λ d. c.args.cell * side c.args.board.now + d) (λ d. side c.args.board.now - d) (side b - 1) c.args.items.now c.loop-digit.digit c.loop-digit.items c.loop-digit.invariant (omega arith))
