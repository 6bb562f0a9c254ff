use Rattle.std.proofs.Common.{◌+◌, ◌*◌}
use Rattle.boards.specs.Board.{side}
use Rattle.sum_kinds.proofs.Filling.{DigitsToCome}
use Rattle.sum_kinds.proofs.fill.push_cell.Given as goal

abbrev pub invariant-loop-digit : goal.invariant-loop-digit
invariant-loop-digit l = DigitsToCome (λ d. l.cell * side l.board + d) (λ d. d) (side l.board) l.initial.items l.digit l.items
