-- Clauses of two and three literals, and the variables of a table.
use Rattle.std.proofs.Common.{◌≡◌, ℕ, ◌+◌, ◌*◌, ◌≤◌, List, [], ◌∷◌, length, ℤ, pos, neg_ℤ, Option, subst, ap₂, arith}
use Rattle.std.proofs.lemmas.Nat.{mul-add-lt}
use Rattle.places.specs.declared.fault.PlaceFault.{PlaceFault}
use Rattle.places.specs.declared.place.Place.{Ghosts}
use Rattle.places.specs.Written.{Writes}
use Rattle.totallers.specs.declared.sum.Sum.{Sum}
use Rattle.running_totals.specs.Room.{Room}

pub same_two : {a b a' b' : ℤ} → a ≡ a' → b ≡ b' → ◌≡◌ {A = List ℤ} (a ∷ b ∷ []) (a' ∷ b' ∷ [])
same_two p q = ap₂ (λ x y. x ∷ y ∷ []) p q

pub same_three : {a b c a' b' c' : ℤ} → a ≡ a' → b ≡ b' → c ≡ c' → ◌≡◌ {A = List ℤ} (a ∷ b ∷ c ∷ []) (a' ∷ b' ∷ c' ∷ [])
same_three p q r = ap₂ (λ x l. x ∷ l) p (same_two q r)

-- what is written of two variables that are alike unless u is true
abbrev pub both : ℤ → ℕ → ℕ → List (List ℤ)
both u a b = (u ∷ neg_ℤ (pos a) ∷ pos b ∷ []) ∷ (u ∷ pos a ∷ neg_ℤ (pos b) ∷ []) ∷ []

-- the same under other terms
pub both_as : {P : Type 0} (𝓟 : Ghosts P) (u u' : ℤ) (a a' b b' : ℕ) (p q : P) (o : Option PlaceFault) → u ≡ u' → a ≡ a' → b ≡ b' →
    Writes 𝓟 (both u a b) p q o → Writes 𝓟 (both u' a' b') p q o
both_as 𝓟 u u' a a' b b' p q o eu ea eb w =
    subst (λ x. Writes 𝓟 (both u' a' x) p q o) eb (subst (λ x. Writes 𝓟 (both u' x b) p q o) ea (subst (λ x. Writes 𝓟 (both x a b) p q o) eu w))

-- a variable of the table
module _ (s : Sum) (room : Room s) (i u : ℕ) (li : i ≤ length s.variables.now) (lu : u ≤ s.target) where
  pub in_table : (1 ≤ s.first + (i * (s.target + 1) + u)) × (s.first + (i * (s.target + 1) + u) ≤ 65535)
  in_table =
      let h = mul-add-lt i (s.target + 1) u (length s.variables.now + 1) (omega arith) (omega arith) in
      let l = room.last in
      let o = room.first in
      (omega arith, omega arith)

-- one literal under another term
pub unit_as : {P : Type 0} (𝓟 : Ghosts P) (l k : ℤ) (p q : P) (o : Option PlaceFault) → l ≡ k → Writes 𝓟 ((l ∷ []) ∷ []) p q o → Writes 𝓟 ((k ∷ []) ∷ []) p q o
unit_as 𝓟 l k p q o e w = subst (λ x. Writes 𝓟 ((x ∷ []) ∷ []) p q o) e w
