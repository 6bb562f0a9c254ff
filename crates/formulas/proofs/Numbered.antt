-- A numbered formula by its parts.
use Rattle.std.proofs.Common.{◌≡◌, ℕ, List, [], ◌∷◌, ◌++◌, map, refl, ap, ◌∙◌}
use Rattle.std.specs.List.{flat_map}
use Rattle.std.proofs.lemmas.List.{map-append}
use Rattle.formulas.specs.Formula.{Clause, Formula}
use Rattle.formulas.specs.Numbered.{signed, numbered}

module _ {A X : Type 0} (number : A → ℕ) where
  pub numbered_joined : (f : X → Formula A) (xs : List X) → numbered number (flat_map f xs) ≡ flat_map (λ x. numbered number (f x)) xs
  numbered_joined f [] = refl
  numbered_joined f (x ∷ xs) = map-append (map (signed number)) (f x) (flat_map f xs) ∙ ap (λ r. numbered number (f x) ++ r) (numbered_joined f xs)

  pub numbered_map : (f : X → Clause A) (xs : List X) → numbered number (map f xs) ≡ flat_map (λ x. numbered number (f x ∷ [])) xs
  numbered_map f [] = refl
  numbered_map f (x ∷ xs) = ap (λ r. map (signed number) (f x) ∷ r) (numbered_map f xs)
