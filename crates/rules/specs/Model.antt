-- Models: a byte for each variable, under which every clause is true.
use Rattle.std.specs.Prelude.{◌≡◌, ℕ, ◌-◌, ◌≤◌, Bool, List, length, ℤ, pos, negsuc, ◌==◌, slice_index}
use Rattle.std.specs.List.{AllByRecursion as Each}
use Rattle.formulas.specs.Formula.{Holds}
use Rattle.boards.specs.declared.board.Board.{Board}
use Rattle.rules.specs.Rule.{Rule}
use Rattle.rules.specs.Clauses.{clauses, variables}

-- the truth of a literal: the byte v - 1 is 1 where the variable v is true, and 0 where it is false; negsuc k is -(k + 1)
abbrev pub true_in : List ℕ → ℤ → Bool
true_in m (pos v) = slice_index m (v - 1) == 1
true_in m (negsuc k) = slice_index m k == 0

-- the bytes m are a model of the board's clauses under the rules
pub record Model (b : Board) (rs : List Rule) (m : List ℕ) : Type 0 where
  pub size : length m ≡ variables b rs
  pub bytes : Each (λ x. x ≤ 1) m
  pub holds : Holds (true_in m) (clauses b rs)
