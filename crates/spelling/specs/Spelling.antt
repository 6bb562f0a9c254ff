-- Lists that are cut into pieces, each closed by an element that marks its end; and writing over a list.
use Rattle.std.specs.Prelude.{ℕ, ◌+◌, Bool, cond, List, [], ◌∷◌, ◌++◌, length, take, drop}

abbrev pub onto_first : {X : Type 0} → X → List (List X) → List (List X)
onto_first x [] = []
onto_first x (p ∷ ps) = (x ∷ p) ∷ ps

-- the pieces without their marks; what stands after the last mark is left out
abbrev pub pieces : {X : Type 0} → (X → Bool) → List X → List (List X)
pieces ends [] = []
pieces ends (x ∷ xs) = cond (ends x) ([] ∷ pieces ends xs) (onto_first x (pieces ends xs))

-- the list xs with ys written over it from `at` on
abbrev pub overwritten : {X : Type 0} → List X → ℕ → List X → List X
overwritten xs at ys = take at xs ++ (ys ++ drop (at + length ys) xs)
