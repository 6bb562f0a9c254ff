-- The four kinds make a set, and a new kind adds to one.
use Rattle.std.proofs.Common.{◌≡◌, ℕ, eqb, List, [], ◌∷◌, Some, None, refl, ap, ◌∙◌, inl, inr, arith}
use Rattle.std.proofs.ByRecursion.{All-weaker}
use Rattle.std.proofs.lemmas.Bool.{cases_Bool, cond-false, eqb-true}
use Rattle.meanings.specs.Kind.{Kind, Lawful}
use Rattle.meanings.specs.Four.{Absent, find, four, Usable}
use Rattle.meanings.proofs.Givens.{givens_lawful}
use Rattle.meanings.proofs.Cages.{cage_lawful}
use Rattle.meanings.proofs.Thermometers.{thermometer_lawful}
use Rattle.meanings.proofs.Arrows.{arrow_lawful}

pub four_usable : Usable four
four_usable = record {
  lawful = (givens_lawful, (cage_lawful, (thermometer_lawful, (arrow_lawful, tt))));
  single = ((refl, (refl, (refl, tt))), ((refl, (refl, tt)), ((refl, tt), (tt, tt))));
  four = (refl, (refl, (refl, (refl, tt))));
}

-- a number that no kind has finds none
pub none_found : (n : ℕ) (𝓚s : List Kind) → Absent n 𝓚s → find n 𝓚s ≡ None
none_found n [] a = refl
none_found n (𝓚 ∷ 𝓚s) a = cond-false (eqb n 𝓚.number) (Some 𝓚) (find n 𝓚s) a.0 ∙ none_found n 𝓚s a.1

-- what is found in a set is found in it with a kind of a new number
pub found_with : (𝓚 : Kind) (𝓚s : List Kind) → Absent 𝓚.number 𝓚s → (n : ℕ) (𝓛 : Kind) → find n 𝓚s ≡ Some 𝓛 → find n (𝓚 ∷ 𝓚s) ≡ Some 𝓛
found_with 𝓚 𝓚s a n 𝓛 h =
    elim (cases_Bool (eqb n 𝓚.number)) [
      | inl e ↦ let q : find n 𝓚s ≡ None = ap (λ m. find m 𝓚s) (eqb-true n 𝓚.number e) ∙ none_found 𝓚.number 𝓚s a in absurd (grind arith)
      | inr e ↦ cond-false (eqb n 𝓚.number) (Some 𝓚) (find n 𝓚s) e ∙ h
    ]

pub usable_with : (𝓚 : Kind) (𝓚s : List Kind) → Lawful 𝓚 → Absent 𝓚.number 𝓚s → Usable 𝓚s → Usable (𝓚 ∷ 𝓚s)
usable_with 𝓚 𝓚s L a U = record {
  lawful = (L, U.lawful);
  single = (a, U.single);
  four = All-weaker (λ 𝓛. find 𝓛.number 𝓚s ≡ Some 𝓛) (λ 𝓛. find 𝓛.number (𝓚 ∷ 𝓚s) ≡ Some 𝓛) (λ 𝓛. found_with 𝓚 𝓚s a 𝓛.number 𝓛) four U.four;
}
