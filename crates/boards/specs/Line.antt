-- Lines as the code holds them.
use Rattle.std.specs.Prelude.{ℕ, ◌*◌, cond, List, [], take, Some, None, Option, nat_lt, slice_index_or}
use Rattle.boards.specs.declared.board.Board.{Board}
use Rattle.boards.specs.declared.line.Line.{Line}
use Rattle.boards.specs.Board.{lines, side}

abbrev pub cells_of : Line → List ℕ
cells_of l = take l.len l.cells

-- the line with a number, where there is one
abbrev pub line_at : Board → ℕ → Option (List ℕ)
line_at b i = cond (nat_lt i (3 * side b)) (Some (slice_index_or (lines b) i [])) None
