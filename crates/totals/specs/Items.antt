-- The variables of a sum: those of its items, and those that an encoding adds.
use Rattle.std.specs.Prelude.{ℕ, ◌<◌, ◌≤◌, Bool, false, List, length, slice_index_or}
use Rattle.std.specs.List.{AllByRecursion as Each}
use Rattle.formulas.specs.Formula.{Formula, SpeaksOf}

pub data Item : Type 0 where
  item : ℕ → Item
  fresh : ℕ → Item

abbrev pub Valuation : Type 0
Valuation = Item → Bool

-- the items' truth values are xs, and those of the fresh variables fs
abbrev pub valued : List Bool → List Bool → Valuation
valued xs fs (item i) = slice_index_or xs i false
valued xs fs (fresh j) = slice_index_or fs j false

-- an item below m, or a fresh variable below n
abbrev pub Known : ℕ → ℕ → Item → Type 0
Known m n (item i) = i < m
Known m n (fresh j) = j < n

-- the formula speaks of m items and n fresh variables
abbrev pub Contained : ℕ → ℕ → Formula Item → Type 0
Contained m n f = SpeaksOf (Known m n) f

-- in clauses of 1 to 16 literals
abbrev pub Sized : Formula Item → Type 0
Sized f = Each (λ c. (1 ≤ length c) × (length c ≤ 16)) f
