-- What is known of a part with which nothing is wrong.
use Rattle.std.proofs.Common.{◌≡◌, ℕ, zero, suc, ◌+◌, ◌<◌, ◌≤◌, Bool, false, List, length, get_or, Some, None, Option, refl, subst, inl, inr, arith}
use Rattle.std.specs.List.{range_with_len, AllByRecursion as Each}
use Rattle.std.proofs.ByRecursion.{All-from_get_or}
use Rattle.std.proofs.lemmas.Bool.{cases_Bool, cases_eq, leb-false}
use Rattle.std.proofs.lemmas.Bool.Decides.{nat_tests}
use Rattle.totallers.specs.declared.fault.TotallerFault.{TotallerFault}
use Rattle.boards.specs.declared.board.Board.{Board}
use Rattle.boards.specs.Board.{cells}
use Rattle.parts.specs.declared.fault.KindFault.{KindFault}
use Rattle.parts.specs.declared.fault.KindFault.TheVariants.{Cell}
use Rattle.parts.specs.Tests.{beyond, cell_fault, first_fault, length_fault}
use Rattle.meanings.specs.Sum.{by_totaller}

module _ (bad : ℕ → Bool) (fault : ℕ → KindFault) where
  none_from : (a n : ℕ) → first_fault bad fault (range_with_len a n) ≡ None → (i : ℕ) → a ≤ i → i < a + n → bad i ≡ false
  none_from a zero h i l u = absurd (omega arith)
  none_from a (suc n) h i l u =
      elim (cases_Bool (bad a)) [
        | inl e ↦ grind arith
        | inr e ↦ elim (cases_eq a i) [
          | inl f ↦ subst (λ z. bad z ≡ false) f e
          | inr f ↦ none_from (a + 1) n (grind arith) i (omega arith) (omega arith)
        ]
      ]

  -- no index is bad
  pub none_bad : (n : ℕ) → first_fault bad fault (range_with_len 0 n) ≡ None → (i : ℕ) → i < n → bad i ≡ false
  none_bad n h i l = none_from 0 n h i (omega arith) (omega arith)

pub cells_on : (b : Board) (body : List ℕ) → cell_fault b body ≡ None → Each (λ c. c < cells b) body
cells_on b body h =
    All-from_get_or (λ c. c < cells b) body 0 (λ i l. leb-false (cells b) (get_or body i 0) (none_bad (beyond b body) Cell (length body) h i l))

pub length_between : (least most : ℕ) (body : List ℕ) → length_fault least most body ≡ None → (least ≤ length body) × (length body ≤ most)
length_between least most body h = (grind (arith, nat_tests), grind (arith, nat_tests))

pub by_none : (o : Option TotallerFault) → by_totaller o ≡ None → o ≡ None
by_none None h = refl
by_none (Some e) h = grind arith
