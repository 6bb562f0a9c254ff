-- Grids, and when one repeats no digit.
use Rattle.std.specs.Prelude.{◌≡◌, ℕ, ◌<◌, ◌≤◌, ◌≢◌, ◌⊎◌, List, length, slice_index}
use Rattle.std.specs.List.{AllByRecursion as Each}
use Rattle.boards.specs.declared.board.Board.{Board}
use Rattle.boards.specs.Board.{box_of, cells, column_of, row_of, side}

abbrev pub Digit : Board → ℕ → Type 0
Digit b d = (1 ≤ d) × (d ≤ side b)

-- a digit for each cell
pub record Grid (b : Board) (g : List ℕ) : Type 0 where
  pub size : length g ≡ cells b
  pub digits : Each (Digit b) g

-- one row, column or box has both cells
abbrev pub Together : Board → ℕ → ℕ → Type 0
Together b p q = (row_of b p ≡ row_of b q) ⊎ ((column_of b p ≡ column_of b q) ⊎ (box_of b p ≡ box_of b q))

-- no row, column or box repeats a digit
abbrev pub Clean : Board → List ℕ → Type 0
Clean b g = (p q : ℕ) → p < q → q < cells b → Together b p q → slice_index g p ≢ slice_index g q
