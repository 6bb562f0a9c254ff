use Rattle.std.proofs.Common.{◌≡◌, [], get_or, take, length}
use Rattle.boards.specs.Board.{lines, side}
use Rattle.boards.proofs.board.Board.line.Given as goal

-- the cells below `index` are there
abbrev pub invariant-loop-index : goal.invariant-loop-index
invariant-loop-index l = (length l.cell-items ≡ side l.self) × (take l.index l.cell-items ≡ take l.index (get_or (lines l.self) l.number []))
