-- Formulas over variables of any type, with each variable replaced by its number.
use Rattle.std.specs.Prelude.{ℕ, List, map, ℤ, pos, neg_ℤ}
use Rattle.formulas.specs.Formula.{Literal, is, isnt, Formula}

-- the literal as a number: negative for "not"
abbrev pub signed : {A : Type 0} → (A → ℕ) → Literal A → ℤ
signed number (is a) = pos (number a)
signed number (isnt a) = neg_ℤ (pos (number a))

abbrev pub numbered : {A : Type 0} → (A → ℕ) → Formula A → List (List ℤ)
numbered number f = map (map (signed number)) f

-- a formula whose variables are numbers
abbrev pub plain : Formula ℕ → List (List ℤ)
plain f = numbered (λ x. x) f
