-- One turn of a loop that reduces a line; how much fuel there is does not matter.
use Rattle.std.proofs.Common.{◌≡◌, ℕ, zero, suc, ◌+◌, ◌≤◌, List, [], ◌∷◌, ◌++◌, length, refl, ap, arith}
use Rattle.std.proofs.lemmas.List.{length_push}
use Rattle.totals.specs.Adders.{Adder, full, Reduced, reduce}

-- over variables of any type, where `new` gives the fresh ones
module _ {A : Type 0} (new : ℕ → A) where
  -- one adder more before what a line comes to
  abbrev pub turn : Adder A → ℕ → Reduced A → Reduced A
  turn g n r = record { adders = g ∷ r.adders; carries = new (n + 1) ∷ r.carries; left = r.left }

  pub reduce_fuel : (m m' : ℕ) (ls : List A) (n : ℕ) → length ls ≤ m → length ls ≤ m' → reduce new m ls n ≡ reduce new m' ls n
  reduce_fuel zero zero ls n l l' = refl
  reduce_fuel zero (suc m') [] n l l' = refl
  reduce_fuel zero (suc m') (a ∷ ls) n l l' = absurd (omega arith)
  reduce_fuel (suc m) zero [] n l l' = refl
  reduce_fuel (suc m) zero (a ∷ ls) n l l' = absurd (omega arith)
  reduce_fuel (suc m) (suc m') [] n l l' = refl
  reduce_fuel (suc m) (suc m') (a ∷ []) n l l' = refl
  reduce_fuel (suc m) (suc m') (a ∷ b ∷ []) n l l' = refl
  reduce_fuel (suc m) (suc m') (a ∷ b ∷ c ∷ ls) n l l' =
      let e = length_push ls (new n) in
      ap (turn (full a b c) n) (reduce_fuel m m' (ls ++ new n ∷ []) (n + 2) (omega arith) (omega arith))

  -- what the line is reduced to
  abbrev pub reduced : List A → ℕ → Reduced A
  reduced ls n = reduce new (length ls) ls n

  pub reduced_turn : (a b c : A) (ls : List A) (n : ℕ) → reduced (a ∷ b ∷ c ∷ ls) n ≡ turn (full a b c) n (reduced (ls ++ new n ∷ []) (n + 2))
  reduced_turn a b c ls n =
      let e = length_push ls (new n) in
      ap (turn (full a b c) n) (reduce_fuel (suc (suc (length ls))) (length (ls ++ new n ∷ [])) (ls ++ new n ∷ []) (n + 2) (omega arith) (omega arith))
