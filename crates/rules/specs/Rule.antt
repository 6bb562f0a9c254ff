-- What one part asks of a grid, the formula that says so, and the law between the two.
use Rattle.std.specs.Prelude.{◌≡◌, ℕ, ◌<◌, Bool, true, false, List, length, ◌==◌, slice_index, slice_index_or}
use Rattle.std.specs.List.{AllByRecursion as Each}
use Rattle.formulas.specs.Formula.{Formula, Holds, SizedClause, SpeaksOf, under}
use Rattle.boards.specs.declared.board.Board.{Board}
use Rattle.boards.specs.Board.{cells}
use Rattle.boards.specs.Atoms.{Atom, at, fresh}
use Rattle.rules.specs.Grid.{Clean, Digit, Grid}

pub record Rule : Type 0 where
  -- whether the grid keeps the rule
  pub keeps : List ℕ → Bool
  -- how many variables the formula adds
  pub fresh_count : ℕ
  pub formula : Formula Atom

-- a cell of the board with a digit, or one of m fresh variables
abbrev pub Inside : Board → ℕ → Atom → Type 0
Inside b m (at c d) = (c < cells b) × Digit b d
Inside b m (fresh j) = j < m

-- the grid is g, and the fresh variables have the values fs
abbrev pub given : List ℕ → List Bool → Atom → Bool
given g fs (at c d) = slice_index g c == d
given g fs (fresh j) = slice_index_or fs j false

-- fs has a value for each fresh variable, and the formula holds under it
pub record Fulfils (r : Rule) (g : List ℕ) (fs : List Bool) : Type 0 where
  pub size : length fs ≡ r.fresh_count
  pub holds : Holds (under (given g fs)) r.formula

-- the formula can be fulfilled just where the grid keeps the rule, and then in one way only
pub record Exact (r : Rule) (g : List ℕ) : Type 0 where
  pub only : (fs : List Bool) → Fulfils r g fs → r.keeps g ≡ true
  pub some : r.keeps g ≡ true → (fs : List Bool) × Fulfils r g fs
  pub one : (fs fs' : List Bool) → Fulfils r g fs → Fulfils r g fs' → fs ≡ fs'

pub record Sound (b : Board) (r : Rule) : Type 0 where
  -- it speaks of the board's cells and of its own fresh variables only, in clauses of 1 to 16 literals
  pub contained : SpeaksOf (Inside b r.fresh_count) r.formula
  pub sized : Each SizedClause r.formula
  pub exact : (g : List ℕ) → Grid b g → Clean b g → Exact r g
