-- The variables that come to a line.
use Rattle.std.proofs.Common.{◌≡◌, ℕ, ◌+◌, cond, List, [], ◌∷◌, length, refl, inl, inr, arith}
use Rattle.std.specs.List.{count_by}
use Rattle.std.proofs.lemmas.List.Sums.{sum_by-cons}
use Rattle.std.proofs.lemmas.Bool.{cases_Bool}
use Rattle.totals.specs.Adders.{has_bit, with_bit}

-- how many they are
pub with_bit_count : (k i : ℕ) (ws : List ℕ) → length (with_bit (λ j. j) k i ws) ≡ count_by (has_bit k) ws
with_bit_count k i [] = refl
with_bit_count k i (w ∷ ws) =
    let ih = with_bit_count k (i + 1) ws in
    let more = sum_by-cons (λ x. cond (has_bit k x) 1 0) w ws in
    elim (cases_Bool (has_bit k w)) [
      | inl e ↦ rw e (omega (arith, ih, rw e at more))
      | inr e ↦ rw e (omega (arith, ih, rw e at more))
    ]
