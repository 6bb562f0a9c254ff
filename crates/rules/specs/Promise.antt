-- The promise about counting: a board under rules has a model for each grid that solves it, and no other.
use Rattle.std.specs.Prelude.{◌≡◌, ℕ, ◌≤◌, true, ◌↔◌, List, Ok, unsigned_abs}
use Rattle.std.specs.List.{AllByRecursion as Each}
use Rattle.formulas.specs.Clause.{right_length}
use Rattle.boards.specs.declared.board.Board.{Board}
use Rattle.rules.specs.Grid.{Clean, Grid}
use Rattle.rules.specs.Rule.{Rule}
use Rattle.rules.specs.Clauses.{clauses, variables}
use Rattle.rules.specs.Model.{Model}
use Rattle.rules.specs.Reading.{read_off}

-- the grid breaks no row, column or box, and keeps every rule
pub record Solves (b : Board) (rs : List Rule) (g : List ℕ) : Type 0 where
  pub clean : Clean b g
  pub keeps : Each (λ r. r.keeps g ≡ true) rs

-- the promise: its models count the grids that solve it
pub record Stands (b : Board) (rs : List Rule) : Type 0 where
  -- each clause has 1 to 16 literals
  pub sized : Each (λ c. right_length c ≡ true) (clauses b rs)
  -- each literal is a variable that is counted, or its negation
  pub counted : Each (Each (λ l. (1 ≤ unsigned_abs l) × (unsigned_abs l ≤ variables b rs))) (clauses b rs)
  -- every model shows a grid
  pub reads : (m : List ℕ) → Model b rs m → (g : List ℕ) × Grid b g × (read_off b m ≡ Ok g)
  -- two models are one just where they show the same grid
  pub same : (m m' : List ℕ) → Model b rs m → Model b rs m' → m ≡ m' ↔ read_off b m ≡ read_off b m'
  -- a grid is shown by a model just where it solves the board under the rules
  pub shown : (g : List ℕ) → Grid b g → ((m : List ℕ) × Model b rs m × (read_off b m ≡ Ok g)) ↔ Solves b rs g
