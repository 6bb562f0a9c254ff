-- Sets of kinds.
use Rattle.std.specs.Prelude.{◌≡◌, ℕ, false, cond, List, [], ◌∷◌, Some, None, Option, ◌==◌}
use Rattle.std.specs.List.{AllByRecursion as Each}
use Rattle.meanings.specs.Kind.{Kind, Lawful}
use Rattle.meanings.specs.Givens.{givens}
use Rattle.meanings.specs.Cage.{cage}
use Rattle.meanings.specs.Thermometer.{thermometer}
use Rattle.meanings.specs.Arrow.{arrow}

-- the kind with a number
abbrev pub find : ℕ → List Kind → Option Kind
find n [] = None
find n (𝓚 ∷ 𝓚s) = cond (n == 𝓚.number) (Some 𝓚) (find n 𝓚s)

-- no kind of the set has the number
abbrev pub Absent : ℕ → List Kind → Type 0
Absent n 𝓚s = Each (λ 𝓚. (n == 𝓚.number) ≡ false) 𝓚s

-- no number stands twice
abbrev pub Single : List Kind → Type 0
Single [] = Unit {0}
Single (𝓚 ∷ 𝓚s) = Absent 𝓚.number 𝓚s × Single 𝓚s

abbrev pub four : List Kind
four = givens ∷ cage ∷ thermometer ∷ arrow ∷ []

-- a set that a draft can have: each kind keeps its law, no number stands twice, and the four kinds are found by their numbers
pub record Usable (𝓚s : List Kind) : Type 0 where
  pub lawful : Each Lawful 𝓚s
  pub single : Single 𝓚s
  pub four : Each (λ 𝓚. find 𝓚.number 𝓚s ≡ Some 𝓚) four
