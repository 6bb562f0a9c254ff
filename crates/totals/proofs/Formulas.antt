-- What holds of clauses that are joined over numbers.
use Rattle.std.proofs.Common.{◌≡◌, ℕ, ◌+◌, ◌-◌, ◌<◌, List, subst, arith}
use Rattle.std.specs.List.{range_with_len, flat_map, AllByRecursion as Each}
use Rattle.formulas.proofs.All.{all_counting_in, all_counting_out, all_joined_in, all_joined_out}

module _ {X : Type 0} (P : X → Type 0) where
  pub each_from_out : (f : ℕ → List X) (a n : ℕ) → Each P (flat_map f (range_with_len a n)) → (k : ℕ) → k < n → Each P (f (a + k))
  each_from_out f a n h k l = all_counting_out (λ i. Each P (f i)) a n (all_joined_out P f (range_with_len a n) h) (a + k) (omega arith) (omega arith)

  pub each_from_in : (f : ℕ → List X) (a n : ℕ) → ((k : ℕ) → k < n → Each P (f (a + k))) → Each P (flat_map f (range_with_len a n))
  each_from_in f a n h =
      all_joined_in P f (range_with_len a n)
      (all_counting_in (λ i. Each P (f i)) a n (λ i l u.
      let e : a + (i - a) ≡ i = omega arith in
      let at : ℕ → Type 0 = λ m. Each P (f m) in
      subst at e (h (i - a) (omega arith))))

  pub each_out : (f : ℕ → List X) (n : ℕ) → Each P (flat_map f (range_with_len 0 n)) → (k : ℕ) → k < n → Each P (f k)
  each_out f n h k l = all_counting_out (λ i. Each P (f i)) 0 n (all_joined_out P f (range_with_len 0 n) h) k (omega arith) (omega arith)

  pub each_in : (f : ℕ → List X) (n : ℕ) → ((k : ℕ) → k < n → Each P (f k)) → Each P (flat_map f (range_with_len 0 n))
  each_in f n h = all_joined_in P f (range_with_len 0 n) (all_counting_in (λ i. Each P (f i)) 0 n (λ k l u. h k (omega arith)))
