-- What a totaller is, and the law of one.
use Rattle.std.specs.Prelude.{◌≡◌, ℕ, ◌+◌, ◌≤◌, Bool, true, cond, List, [], ◌∷◌, length}
use Rattle.std.specs.List.{AllByRecursion as Each}
use Rattle.formulas.specs.Formula.{Formula, Holds, under}
use Rattle.totals.specs.Items.{Contained, Item, Sized, valued}

pub record Totaller : Type 0 where
  -- the greatest number of items
  pub most : ℕ
  -- whether it takes so many items, with this target
  pub takes : ℕ → ℕ → Bool
  -- how many fresh variables it adds for these weights and this target
  pub fresh_count : List ℕ → ℕ → ℕ
  pub formula : List ℕ → ℕ → Formula Item

-- the sum of the weights whose item is true
abbrev pub total : List ℕ → List Bool → ℕ
total [] xs = 0
total (w ∷ ws) [] = 0
total (w ∷ ws) (x ∷ xs) = cond x w 0 + total ws xs

abbrev pub Weight : ℕ → Type 0
Weight w = (1 ≤ w) × (w ≤ 15)

-- fs has a value for each fresh variable, and the formula holds under it
pub record Fulfils (𝓣 : Totaller) (ws : List ℕ) (t : ℕ) (xs fs : List Bool) : Type 0 where
  pub size : length fs ≡ 𝓣.fresh_count ws t
  pub holds : Holds (under (valued xs fs)) (𝓣.formula ws t)

-- the formula can be fulfilled just where the total is the target, and then in one way only
pub record Exact (𝓣 : Totaller) (ws : List ℕ) (t : ℕ) (xs : List Bool) : Type 0 where
  pub only : (fs : List Bool) → Fulfils 𝓣 ws t xs fs → total ws xs ≡ t
  pub some : total ws xs ≡ t → (fs : List Bool) × Fulfils 𝓣 ws t xs fs
  pub one : (fs gs : List Bool) → Fulfils 𝓣 ws t xs fs → Fulfils 𝓣 ws t xs gs → fs ≡ gs

pub record Sound (𝓣 : Totaller) (ws : List ℕ) (t : ℕ) : Type 0 where
  -- it speaks of the items and of its own fresh variables only, in clauses of 1 to 16 literals
  pub contained : Contained (length ws) (𝓣.fresh_count ws t) (𝓣.formula ws t)
  pub sized : Sized (𝓣.formula ws t)
  pub exact : (xs : List Bool) → length xs ≡ length ws → Exact 𝓣 ws t xs

pub record Lawful (𝓣 : Totaller) : Type 0 where
  pub sound : (ws : List ℕ) (t : ℕ) → Each Weight ws → 𝓣.takes (length ws) t ≡ true → Sound 𝓣 ws t
  -- it takes every list of 1 to 8 items with a target up to 10, and none beyond its greatest number
  pub ready : (n t : ℕ) → 1 ≤ n → n ≤ 8 → t ≤ 10 → 𝓣.takes n t ≡ true
  pub bounded : (n t : ℕ) → 𝓣.takes n t ≡ true → (1 ≤ n) × (n ≤ 𝓣.most)
