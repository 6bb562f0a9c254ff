-- What holds of each element of lists that are put together.
use Rattle.std.proofs.Common.{◌≡◌, ℕ, zero, suc, ◌+◌, ◌<◌, ◌≤◌, Bool, true, List, [], ◌∷◌, ◌++◌, map, length, get_or, filter, refl, ap, subst, inl, inr, not-suc-le-zero, arith}
use Rattle.std.specs.List.{range_with_len, AllByRecursion as Each}
use Rattle.std.proofs.ByRecursion.{All-append, All-map}
use Rattle.std.proofs.lemmas.Bool.{cases_eq, cases_Bool}
use Rattle.formulas.proofs.All.{all_left, all_map_out, all_right}
use Rattle.boards.specs.Board.{pairs}

-- of the numbers that pass the test t
module _ (t : ℕ → Bool) where
  pub kept_out : (P : ℕ → Type 0) (a n : ℕ) → Each P (filter t (range_with_len a n)) → (k : ℕ) → a ≤ k → k < a + n → t k ≡ true → P k
  kept_out P a zero h k l u p = absurd (omega arith)
  kept_out P a (suc n) h k l u p =
      elim (cases_Bool (t a)) [
        | inl e ↦
            let g : P a × Each P (filter t (range_with_len (a + 1) n)) = rw e at h in
            elim (cases_eq a k) [ inl f ↦ subst P f g.0 | inr f ↦ kept_out P (a + 1) n g.1 k (omega arith) (omega arith) p ]
        | inr e ↦
            let g : Each P (filter t (range_with_len (a + 1) n)) = rw e at h in
            let ne : a ≡ k → ⊥ = λ f. grind (arith, ap t f) in
            kept_out P (a + 1) n g k (omega arith) (omega arith) p
      ]

  pub kept_in : (P : ℕ → Type 0) (a n : ℕ) → ((k : ℕ) → a ≤ k → k < a + n → t k ≡ true → P k) → Each P (filter t (range_with_len a n))
  kept_in P a zero h = tt
  kept_in P a (suc n) h =
      let ih = kept_in P (a + 1) n (λ k l u p. h k (omega arith) (omega arith) p) in
      elim (cases_Bool (t a)) [
        | inl e ↦ rw e (h a (omega arith) (omega arith) e, ih)
        | inr e ↦ rw e ih
      ]

  pub pairs_out : (P : ℕ × ℕ → Type 0) (a n : ℕ) → Each P (pairs (filter t (range_with_len a n))) →
      (x y : ℕ) → a ≤ x → x < y → y < a + n → t x ≡ true → t y ≡ true → P (x, y)
  pairs_out P a zero h x y l m u p q = absurd (omega arith)
  pairs_out P a (suc n) h x y l m u p q =
      let k = filter t (range_with_len (a + 1) n) in
      elim (cases_Bool (t a)) [
        | inl e ↦
            let g : Each P (map (λ z. (a, z)) k ++ pairs k) = rw e at h in
            elim (cases_eq a x) [
              | inl f ↦ subst (λ z. P (z, y)) f
                  (kept_out (λ z. P (a, z)) (a + 1) n (all_map_out P (λ z. (a, z)) k (all_left P _ _ g)) y (omega arith) (omega arith) q)
              | inr f ↦ pairs_out P (a + 1) n (all_right P (map (λ z. (a, z)) k) _ g) x y (omega arith) m (omega arith) p q
            ]
        | inr e ↦
            let ne : a ≡ x → ⊥ = λ f. grind (arith, ap t f) in
            pairs_out P (a + 1) n (rw e at h) x y (omega arith) m (omega arith) p q
      ]

  pub pairs_in : (P : ℕ × ℕ → Type 0) (a n : ℕ) →
      ((x y : ℕ) → a ≤ x → x < y → y < a + n → t x ≡ true → t y ≡ true → P (x, y)) → Each P (pairs (filter t (range_with_len a n)))
  pairs_in P a zero h = tt
  pairs_in P a (suc n) h =
      let k = filter t (range_with_len (a + 1) n) in
      let ih = pairs_in P (a + 1) n (λ x y l m u p q. h x y (omega arith) m (omega arith) p q) in
      elim (cases_Bool (t a)) [
        | inl e ↦ rw e (All-append P (map (λ z. (a, z)) k) _
            (All-map P (λ z. (a, z)) k (kept_in (λ z. P (a, z)) (a + 1) n (λ y l u q. h a y (omega arith) (omega arith) (omega arith) e q))) ih)
        | inr e ↦ rw e ih
      ]

kept_all : (a n : ℕ) → filter (λ _. true) (range_with_len a n) ≡ range_with_len a n
kept_all a zero = refl
kept_all a (suc n) = ap (λ l. a ∷ l) (kept_all (a + 1) n)

pub all_pairs_out : (P : ℕ × ℕ → Type 0) (a n : ℕ) → Each P (pairs (range_with_len a n)) → (x y : ℕ) → a ≤ x → x < y → y < a + n → P (x, y)
all_pairs_out P a n h x y l m u = pairs_out (λ _. true) P a n (rw kept_all h) x y l m u refl refl

pub all_pairs_in : (P : ℕ × ℕ → Type 0) (a n : ℕ) → ((x y : ℕ) → a ≤ x → x < y → y < a + n → P (x, y)) → Each P (pairs (range_with_len a n))
all_pairs_in P a n h = rw kept_all at (pairs_in (λ _. true) P a n (λ x y l m u p q. h x y l m u))

-- a choice for each place, as a list
pub chosen : (n : ℕ) (P : ℕ → ℕ → Type 0) → ((k : ℕ) → k < n → (x : ℕ) × P k x) →
    (xs : List ℕ) × (length xs ≡ n) × ((k : ℕ) → k < n → P k (get_or xs k 0))
chosen zero P h = ([], refl, λ k l. absurd (not-suc-le-zero l))
chosen (suc n) P h =
    let (x, p) = h 0 (omega arith) in
    let (xs, e, q) = chosen n (λ k. P (suc k)) (λ k l. h (suc k) (omega arith)) in
    (x ∷ xs, ap suc e, at_each x xs p q)
  where
    at_each : (x : ℕ) (xs : List ℕ) → P 0 x → ((k : ℕ) → k < n → P (suc k) (get_or xs k 0)) → (k : ℕ) → k < suc n → P k (get_or (x ∷ xs) k 0)
    at_each x xs p q zero l = p
    at_each x xs p q (suc k) l = q k (omega arith)
