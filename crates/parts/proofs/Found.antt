-- The first bad index of a list, as the library finds it.
use Rattle.std.proofs.Common.{◌≡◌, ℕ, zero, suc, ◌+◌, ◌-◌, ◌<◌, Bool, false, cond, List, [], ◌∷◌, length, get_or, take, drop, Option, Some, None, Result, Ok, Err, inl, inr, sym, refl, ap, ap₂, ◌∙◌, arith}
use Rattle.std.specs.List.{range_with_len, position, position_from}
use Rattle.std.specs.Option.{MatchOption, option_map}
use Rattle.std.specs.Result.{result_err}
use Rattle.std.specs.Iterator.{AlwaysYields}
use Rattle.std.specs.Slice.Iter.{windows_rest, windows_size, windows_steps}
use Rattle.std.proofs.lemmas.Bool.{cases_Bool, cond-false}
use Rattle.std.proofs.lemmas.Iterator.{YieldsList}
use Rattle.std.proofs.lemmas.Iterator.Adapters.{position_from-zero}
use Rattle.parts.specs.declared.fault.KindFault.{KindFault}
use Rattle.parts.specs.Tests.{first_fault, index_fault}

-- Ok, or the fault of the index that was found
pub refused : (fault : ℕ → KindFault) (o : Option ℕ) (r : Result Unit KindFault) → MatchOption o (r ≡ Ok tt) (λ i. r ≡ Err (fault i)) →
    result_err r ≡ option_map fault o
refused fault None r m = ap result_err m
refused fault (Some i) r m = ap result_err m

module _ {X : Type 0} (d : X) (test : X → Bool) (fault : ℕ → KindFault) (bad : ℕ → Bool) where
  found_from : (xs : List X) (a : ℕ) → ((i : ℕ) → i < length xs → test (get_or xs i d) ≡ bad (a + i)) →
      option_map fault (position_from test a xs) ≡ first_fault bad fault (range_with_len a (length xs))
  found_from [] a same = refl
  found_from (x ∷ xs) a same =
      let now : test x ≡ bad a = same 0 (omega arith) ∙ ap bad (omega arith) in
      let later = found_from xs (a + 1) (λ i l. same (suc i) (omega arith) ∙ ap bad (omega arith)) in
      elim (cases_Bool (bad a)) [
        | inl e ↦ rw (now, e)
        | inr e ↦ rw (now, e) later
      ]

  pub found : (xs : List X) → ((i : ℕ) → i < length xs → test (get_or xs i d) ≡ bad i) → option_map fault (position test xs) ≡ first_fault bad fault (range_with_len 0 (length xs))
  found xs same = ap (option_map fault) (position_from-zero test xs) ∙ found_from xs 0 (λ i l. same i l ∙ ap bad (omega arith))

-- each element with the next one, as a walk over windows of two gives them
abbrev pub neighbours : {X : Type 0} → List X → List (List X)
neighbours [] = []
neighbours (x ∷ []) = []
neighbours (x ∷ y ∷ xs) = (x ∷ y ∷ []) ∷ neighbours (y ∷ xs)

pub YieldsList-from_windows : {X : Type 0} {s : _} (xs : List X) → windows_rest s ≡ xs → windows_size s ≡ 2 →
    YieldsList windows_steps (λ y. y.now) s (neighbours xs)
YieldsList-from_windows {X} {s} xs rest two = record { runs = go s xs rest two }
  where
    go : (s : _) (xs : List X) → windows_rest s ≡ xs → windows_size s ≡ 2 → AlwaysYields windows_steps (λ y. y.now) s (neighbours xs)
    go s [] rest two = λ w t step. absurd (let l = ap length rest in omega (arith, step.1.0))
    go s (x ∷ []) rest two = λ w t step. absurd (let l = ap length rest in omega (arith, step.1.0))
    go s (x ∷ y ∷ xs) rest two = (
      λ t step. absurd (let l = ap length rest in omega (arith, step.1.0)),
      λ w t step. (step.1.1 ∙ ap₂ take two rest, go t (y ∷ xs) (step.1.2 ∙ ap (drop 1) rest) (step.0 ∙ two)),
    )

pub length_neighbours : {X : Type 0} (xs : List X) → length (neighbours xs) ≡ length xs - 1
length_neighbours [] = refl
length_neighbours (x ∷ []) = refl
length_neighbours (x ∷ y ∷ xs) = omega (arith, length_neighbours (y ∷ xs))

pub at_neighbours : (xs : List ℕ) (i : ℕ) → i < length (neighbours xs) → get_or (neighbours xs) i [] ≡ get_or xs i 0 ∷ get_or xs (i + 1) 0 ∷ []
at_neighbours [] i l = absurd (omega arith)
at_neighbours (x ∷ []) i l = absurd (omega arith)
at_neighbours (x ∷ y ∷ xs) zero l = refl
at_neighbours (x ∷ y ∷ xs) (suc i) l =
    let e : suc (i + 1) ≡ suc i + 1 = omega arith in
    at_neighbours (y ∷ xs) i (omega arith) ∙ ap (λ k. get_or (y ∷ xs) i 0 ∷ get_or (x ∷ y ∷ xs) k 0 ∷ []) e

module _ (fault : ℕ → KindFault) (bad : ℕ → Bool) where
  shifted : (a n : ℕ) → first_fault (λ i. bad (i + 1)) (λ i. fault (i + 1)) (range_with_len a n) ≡ first_fault bad fault (range_with_len (a + 1) n)
  shifted a zero = refl
  shifted a (suc n) = ap (cond (bad (a + 1)) (Some (fault (a + 1)))) (shifted (a + 1) n)

  -- where the first is not bad
  pub from_second : (xs : List ℕ) → bad 0 ≡ false →
      first_fault (λ i. bad (i + 1)) (λ i. fault (i + 1)) (range_with_len 0 (length (neighbours xs))) ≡ index_fault bad fault xs
  from_second [] good = refl
  from_second (x ∷ xs) good =
      ap (λ n. first_fault (λ i. bad (i + 1)) (λ i. fault (i + 1)) (range_with_len 0 n)) (length_neighbours (x ∷ xs) ∙ omega arith) ∙ shifted 0 (length xs) ∙
      sym (cond-false (bad 0) _ _ good)
