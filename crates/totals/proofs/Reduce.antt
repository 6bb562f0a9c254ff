-- A line's adders: they add what is there, they keep its worth, and leave one atom at most.
use Rattle.std.proofs.Common.{◌≡◌, ℕ, zero, suc, ◌+◌, ◌*◌, ◌≤◌, List, [], ◌∷◌, ◌++◌, length, refl, arith}
use Rattle.std.specs.List.{AllByRecursion as Each}
use Rattle.std.proofs.ByRecursion.{All-append}
use Rattle.std.proofs.lemmas.List.{length-append}
use Rattle.formulas.specs.Formula.{Holds, under}
use Rattle.formulas.proofs.All.{holds_left, holds_right}
use Rattle.totals.specs.Items.{Item, fresh, Valuation, Known}
use Rattle.totals.specs.Adders.{full, half, adder_clauses, wired, Reduced, reduce}
use Rattle.totals.proofs.Adder.{ones, adder_out}
use Rattle.totals.proofs.Circuit.{Made, all_inside}

pub ones_append : (v : Valuation) (ls ms : List Item) → ones v (ls ++ ms) ≡ ones v ls + ones v ms
ones_append v [] ms = omega arith
ones_append v (a ∷ ls) ms = omega (arith, ones_append v ls ms)

pub record Sound (c n : ℕ) (r : Reduced Item) : Type 0 where
  pub made : Made c n r.adders
  pub carries : Each (Known c (n + 2 * length r.adders)) r.carries
  pub left : Each (Known c (n + 2 * length r.adders)) r.left

pub reduce_sound : (m : ℕ) (ls : List Item) (c n : ℕ) → Each (Known c n) ls → Sound c n (reduce fresh m ls n)
reduce_sound zero ls c n h = record { made = tt; carries = tt; left = all_inside c n (n + 0) (omega arith) ls h }
reduce_sound (suc m) [] c n h = record { made = tt; carries = tt; left = tt }
reduce_sound (suc m) (a ∷ []) c n h = record { made = tt; carries = tt; left = all_inside c n (n + 0) (omega arith) (a ∷ []) h }
reduce_sound (suc m) (a ∷ b ∷ []) c n h =
    record { made = ((h.0, h.1), tt); carries = (omega arith, tt); left = (omega arith, tt) }
reduce_sound (suc m) (a ∷ b ∷ d ∷ ls) c n h =
    let new = All-append (Known c (n + 2)) ls (fresh n ∷ []) (all_inside c n (n + 2) (omega arith) ls h.1.1.1) (omega arith, tt) in
    let r = reduce fresh m (ls ++ fresh n ∷ []) (n + 2) in
    let s = reduce_sound m (ls ++ fresh n ∷ []) c (n + 2) new in
    let le : n + 2 + 2 * length r.adders ≤ n + 2 * suc (length r.adders) = omega arith in
    record {
      made = ((h.0, (h.1.0, (h.1.1.0, tt))), s.made);
      carries = (omega arith, all_inside c _ _ le r.carries s.carries);
      left = all_inside c _ _ le r.left s.left;
    }

pub reduce_worth : (v : Valuation) (m : ℕ) (ls : List Item) (n : ℕ) → Holds (under v) (wired fresh n (reduce fresh m ls n).adders) →
    ones v ls ≡ ones v (reduce fresh m ls n).left + 2 * ones v (reduce fresh m ls n).carries
reduce_worth v zero ls n h = omega arith
reduce_worth v (suc m) [] n h = refl
reduce_worth v (suc m) (a ∷ []) n h = omega arith
reduce_worth v (suc m) (a ∷ b ∷ []) n h = omega (arith, adder_out v n (half a b) h)
reduce_worth v (suc m) (a ∷ b ∷ c ∷ ls) n h =
    let r = reduce fresh m (ls ++ fresh n ∷ []) (n + 2) in
    omega (
      arith,
      adder_out v n (full a b c) (holds_left (under v) (adder_clauses fresh n (full a b c)) (wired fresh (n + 2) r.adders) h),
      ones_append v ls (fresh n ∷ []),
      reduce_worth v m (ls ++ fresh n ∷ []) (n + 2) (holds_right (under v) (adder_clauses fresh n (full a b c)) (wired fresh (n + 2) r.adders) h),
    )

pub reduce_thin : (m : ℕ) (ls : List Item) (n : ℕ) → length ls ≤ m → length (reduce fresh m ls n).left ≤ 1
reduce_thin zero ls n l = omega arith
reduce_thin (suc m) [] n l = omega arith
reduce_thin (suc m) (a ∷ []) n l = omega arith
reduce_thin (suc m) (a ∷ b ∷ []) n l = omega arith
reduce_thin (suc m) (a ∷ b ∷ c ∷ ls) n l =
    reduce_thin m (ls ++ fresh n ∷ []) (n + 2) (omega (arith, length-append ls (fresh n ∷ [])))
