-- What holds of each element of lists that are put together.
use Rattle.std.proofs.Common.{◌≡◌, ℕ, zero, suc, ◌+◌, ◌<◌, ◌≤◌, Bool, true, List, [], ◌∷◌, ◌++◌, map, subst, inl, inr, arith}
use Rattle.std.specs.List.{range_with_len, flat_map, AllByRecursion as Each}
use Rattle.std.proofs.ByRecursion.{All-append}
use Rattle.std.proofs.lemmas.Bool.{cases_eq}
use Rattle.formulas.specs.Formula.{Holds, some_true}

module _ {X : Type 0} (P : X → Type 0) where
  pub all_left : (xs ys : List X) → Each P (xs ++ ys) → Each P xs
  all_left [] ys h = tt
  all_left (x ∷ xs) ys h = (h.0, all_left xs ys h.1)

  pub all_right : (xs ys : List X) → Each P (xs ++ ys) → Each P ys
  all_right [] ys h = h
  all_right (x ∷ xs) ys h = all_right xs ys h.1

  pub all_joined_out : {Y : Type 0} (f : Y → List X) (ys : List Y) → Each P (flat_map f ys) → Each (λ y. Each P (f y)) ys
  all_joined_out f [] h = tt
  all_joined_out f (y ∷ ys) h = (all_left (f y) _ h, all_joined_out f ys (all_right (f y) _ h))

  pub all_joined_in : {Y : Type 0} (f : Y → List X) (ys : List Y) → Each (λ y. Each P (f y)) ys → Each P (flat_map f ys)
  all_joined_in f [] h = tt
  all_joined_in f (y ∷ ys) h = All-append P (f y) _ h.0 (all_joined_in f ys h.1)

  pub all_map_out : {Y : Type 0} (f : Y → X) (ys : List Y) → Each P (map f ys) → Each (λ y. P (f y)) ys
  all_map_out f [] h = tt
  all_map_out f (y ∷ ys) h = (h.0, all_map_out f ys h.1)

pub all_counting_out : (P : ℕ → Type 0) (a n : ℕ) → Each P (range_with_len a n) → (k : ℕ) → a ≤ k → k < a + n → P k
all_counting_out P a zero h k l u = absurd (omega arith)
all_counting_out P a (suc n) h k l u =
    elim (cases_eq a k) [
      | inl e ↦ subst P e h.0
      | inr e ↦ all_counting_out P (a + 1) n h.1 k (omega arith) (omega arith)
    ]

pub all_counting_in : (P : ℕ → Type 0) (a n : ℕ) → ((k : ℕ) → a ≤ k → k < a + n → P k) → Each P (range_with_len a n)
all_counting_in P a zero h = tt
all_counting_in P a (suc n) h = (h a (omega arith) (omega arith), all_counting_in P (a + 1) n (λ k l u. h k (omega arith) (omega arith)))

-- two formulas that hold together
module _ {L : Type 0} (p : L → Bool) (f g : List (List L)) where
  pub holds_left : Holds p (f ++ g) → Holds p f
  holds_left h = all_left (λ c. some_true p c ≡ true) f g h

  pub holds_right : Holds p (f ++ g) → Holds p g
  holds_right h = all_right (λ c. some_true p c ≡ true) f g h

  pub holds_both : Holds p f → Holds p g → Holds p (f ++ g)
  holds_both h k = All-append (λ c. some_true p c ≡ true) f g h k
