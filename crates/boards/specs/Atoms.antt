-- The variables of a draft: of its cells, and the fresh ones of a part.
use Rattle.std.specs.Prelude.{ℕ, ◌+◌, ◌*◌}
use Rattle.boards.specs.declared.board.Board.{Board}
use Rattle.boards.specs.Board.{cells, side}

-- that a cell has a digit, or one that a part adds
pub data Atom : Type 0 where
  at : ℕ → ℕ → Atom
  fresh : ℕ → Atom

abbrev pub cell_variables : Board → ℕ
cell_variables b = cells b * side b

-- the number of a variable, where so many are numbered before the fresh ones
abbrev pub number : Board → ℕ → Atom → ℕ
number b before (at c d) = c * side b + d
number b before (fresh j) = before + 1 + j
