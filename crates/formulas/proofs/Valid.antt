-- Clauses that any place takes.
use Rattle.std.proofs.Common.{◌≡◌, ℕ, zero, suc, ◌≤◌, true, [], ◌∷◌, ℤ, pos, neg_ℤ, ap, ◌∙◌, arith}
use Rattle.std.proofs.lemmas.Bool.Decides.{nat_tests}
use Rattle.formulas.specs.Clause.{usable, valid}

pub usable_is : (v : ℕ) → 1 ≤ v → v ≤ 65535 → usable (pos v) ≡ true
usable_is v l u = grind (arith, nat_tests)

pub usable_not : (v : ℕ) → 1 ≤ v → v ≤ 65535 → usable (neg_ℤ (pos v)) ≡ true
usable_not zero l u = absurd (omega arith)
usable_not (suc v) l u = grind (arith, nat_tests)

-- literals under other terms
pub usable_is_as : (l : ℤ) (v : ℕ) → l ≡ pos v → 1 ≤ v → v ≤ 65535 → usable l ≡ true
usable_is_as l v e lo hi = ap usable e ∙ usable_is v lo hi

pub usable_not_as : (l : ℤ) (v : ℕ) → l ≡ neg_ℤ (pos v) → 1 ≤ v → v ≤ 65535 → usable l ≡ true
usable_not_as l v e lo hi = ap usable e ∙ usable_not v lo hi

pub valid_two : (a b : ℤ) → usable a ≡ true → usable b ≡ true → valid (a ∷ b ∷ []) ≡ true
valid_two a b p q = grind (arith, nat_tests)

pub valid_three : (a b c : ℤ) → usable a ≡ true → usable b ≡ true → usable c ≡ true → valid (a ∷ b ∷ c ∷ []) ≡ true
valid_three a b c p q r = grind (arith, nat_tests)
