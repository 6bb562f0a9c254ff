-- What the next call of a chain gives.
use Rattle.std.proofs.Common.{◌≡◌, ℕ, Bool, not, List, [], ◌∷◌, take, drop, Some, None, Option, refl, ap, ◌∙◌, subst, sym, inl, inr, one-add, Bor, slice_get, slice_index_or}
use Rattle.std.specs.List.{before_first, onto_first, prefix_len, slice_split}
use Rattle.std.specs.Option.{option_map, unwrap_or}
use Rattle.std.proofs.lemmas.Bool.{cases_Bool}
use Rattle.std.proofs.lemmas.Iterator.{YieldsList}
use Rattle.std.proofs.lemmas.Option.{unwrap_or-slice_get}
use Rattle.desk.specs.Rest.{first}

module _ {S A B : Type 0} {steps : S → Option A → S → Type 0} {v : A → B} {s : S} where
  -- `None` ends the list
  pub none_left : (ys : List B) (r : Option A) (t : S) → steps s r t → r ≡ None → YieldsList steps v s ys → ys ≡ []
  none_left [] r t k e h = refl
  none_left (y ∷ ys) r t k e h = let at : Option A → Type 0 = λ o. steps s o t in absurd (h.runs.0 t (subst at e k))

  -- an item is the first of the list, and the others are left
  pub first_left : (ys : List B) (r : Option A) (x : A) (t : S) → steps s r t → r ≡ Some x → YieldsList steps v s ys →
      (ys ≡ v x ∷ drop 1 ys) × YieldsList steps v t (drop 1 ys)
  first_left [] r x t k e h = let at : Option A → Type 0 = λ o. steps s o t in absurd (h.runs x t (subst at e k))
  first_left (y ∷ ys) r x t k e h =
      let at : Option A → Type 0 = λ o. steps s o t in
      let m = h.runs.1 x t (subst at e k) in
      (ap (λ z. z ∷ ys) (sym m.0), record { runs = m.1 })

-- the first part of a list that is split
pub first_part : (p : ℕ → Bool) (xs : List ℕ) → first (slice_split p xs) ≡ before_first p xs
first_part p [] = refl
first_part p (x ∷ xs) =
    elim (cases_Bool (p x)) [
      | inl t ↦ rw t
      | inr t ↦ rw t (onto (slice_split p xs) (first_part p xs) ∙ ap (λ k. take k (x ∷ xs)) (sym (one-add (prefix_len (λ y. not (p y)) xs))))
    ]
  where
    onto : (parts : List (List ℕ)) → first parts ≡ before_first p xs → first (onto_first x parts) ≡ x ∷ before_first p xs
    onto [] e = ap (λ l. x ∷ l) e
    onto (part ∷ parts) e = ap (λ l. x ∷ l) e

-- what `nth` gives is at its index, and nothing is there where it gives nothing
pub at_index : (ls : List (List ℕ)) (n : ℕ) (r o : Option (Bor (List ℕ))) → option_map (λ y. y.now) r ≡ slice_get ls n → r ≡ o →
    unwrap_or (option_map (λ y. y.now) o) [] ≡ slice_index_or ls n []
at_index ls n r o e is = ap (λ q. unwrap_or (option_map (λ y. y.now) q) []) (sym is) ∙ ap (λ q. unwrap_or q []) e ∙ unwrap_or-slice_get ls n []
