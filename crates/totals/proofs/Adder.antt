-- What the clauses of one adder say: what goes in is what comes out.
use Rattle.std.proofs.Common.{◌≡◌, ℕ, zero, suc, ◌+◌, ◌*◌, ◌<◌, ◌≤◌, Bool, true, false, cond, List, [], ◌∷◌, refl, arith}
use Rattle.formulas.specs.Formula.{Holds, under}
use Rattle.totals.specs.Items.{Item, fresh, Valuation, Known, Contained}
use Rattle.std.specs.List.{AllByRecursion as Each}
use Rattle.totals.specs.Adders.{Adder, full, half, adder_clauses}

abbrev pub bit : Bool → ℕ
bit b = cond b 1 0

-- how many of the atoms are true
abbrev pub ones : Valuation → List Item → ℕ
ones v [] = 0
ones v (a ∷ ls) = bit (v a) + ones v ls

abbrev pub inputs : Adder Item → List Item
inputs (full a b c) = a ∷ b ∷ c ∷ []
inputs (half a b) = a ∷ b ∷ []

pub adder_out : (v : Valuation) (n : ℕ) (g : Adder Item) → Holds (under v) (adder_clauses fresh n g) →
    ones v (inputs g) ≡ bit (v (fresh n)) + 2 * bit (v (fresh (n + 1)))
adder_out v n (full a b c) h = grind arith
adder_out v n (half a b) h = grind arith

pub adder_in : (v : Valuation) (n : ℕ) (g : Adder Item) →
    ones v (inputs g) ≡ bit (v (fresh n)) + 2 * bit (v (fresh (n + 1))) → Holds (under v) (adder_clauses fresh n g)
adder_in v n (full a b c) h = grind arith
adder_in v n (half a b) h = grind arith

pub at_most_three : (v : Valuation) (g : Adder Item) → ones v (inputs g) ≤ 3
at_most_three v (full a b c) = grind arith
at_most_three v (half a b) = grind arith

pub two_bits : (m : ℕ) → m ≤ 3 → (s t : Bool) × (m ≡ bit s + 2 * bit t)
two_bits zero l = (false, false, refl)
two_bits (suc zero) l = (true, false, refl)
two_bits (suc (suc zero)) l = (false, true, refl)
two_bits (suc (suc (suc zero))) l = (true, true, refl)
two_bits (suc (suc (suc (suc m)))) l = absurd (omega arith)

pub same_bits : (s t s' t' : Bool) → bit s + 2 * bit t ≡ bit s' + 2 * bit t' → (s ≡ s') × (t ≡ t')
same_bits s t s' t' e = grind arith

pub adder_contained : (c m n : ℕ) (g : Adder Item) → n + 1 < m → Each (Known c m) (inputs g) → Contained c m (adder_clauses fresh n g)
adder_contained c m n (full a b d) l h = let k : n < m = omega arith in let x = h.0 in let y = h.1.0 in let z = h.1.1.0 in search parts 20
adder_contained c m n (half a b) l h = let k : n < m = omega arith in let x = h.0 in let y = h.1.0 in search parts 20
