-- A formula under numbers says of the bytes what it says of its own variables.
use Rattle.std.proofs.Common.{◌≡◌, ℕ, zero, suc, ◌-◌, ◌≤◌, Bool, not, ◌||◌, List, [], ◌∷◌, map, get_or, pos, neg_ℤ, sym, refl, ap, ◌∙◌, ap₂, not-suc-le-zero, arith}
use Rattle.std.specs.List.{AllByRecursion as Each}
use Rattle.std.proofs.lemmas.Bool.Decides.{nat_tests}
use Rattle.formulas.specs.Formula.{Literal, is, isnt, Formula, Holds, some_true, SpeaksOf, under, variable}
use Rattle.formulas.specs.Numbered.{numbered, signed}
use Rattle.boards.specs.declared.board.Board.{Board}
use Rattle.boards.specs.Atoms.{Atom, at, fresh, number}
use Rattle.rules.specs.Model.{true_in}
use Rattle.rules.specs.Rule.{Inside}

-- a formula under other literals, each as true as the one that it stands for
module _ {K L : Type 0} (p : L → Bool) (q : K → Bool) (f : K → L) (P : K → Type 0) (same : (k : K) → P k → p (f k) ≡ q k) where
  clause_mapped : (c : List K) → Each P c → some_true p (map f c) ≡ some_true q c
  clause_mapped [] h = refl
  clause_mapped (k ∷ c) h = ap₂ ◌||◌ (same k h.0) (clause_mapped c h.1)

  pub mapped_out : (g : List (List K)) → Each (Each P) g → Holds p (map (map f) g) → Holds q g
  mapped_out [] i h = tt
  mapped_out (c ∷ g) i h = (sym (clause_mapped c i.0) ∙ h.0, mapped_out g i.1 h.1)

  pub mapped_in : (g : List (List K)) → Each (Each P) g → Holds q g → Holds p (map (map f) g)
  mapped_in [] i h = tt
  mapped_in (c ∷ g) i h = (clause_mapped c i.0 ∙ h.0, mapped_in g i.1 h.1)

-- bytes that are 0 or 1
module _ (m : List ℕ) (bytes : Each (λ x. x ≤ 1) m) where
  pub small : (k : ℕ) → get_or m k 0 ≤ 1
  small k = go m bytes k
    where
      go : (m : List ℕ) → Each (λ x. x ≤ 1) m → (k : ℕ) → get_or m k 0 ≤ 1
      go [] h k = omega arith
      go (x ∷ m) h zero = h.0
      go (x ∷ m) h (suc k) = go m h.1 k

  negated : (v : ℕ) → 1 ≤ v → true_in m (neg_ℤ (pos v)) ≡ not (true_in m (pos v))
  negated zero l = absurd (not-suc-le-zero l)
  negated (suc k) l =
      let e : suc k - 1 ≡ k = omega arith in
      let s = small k in
      rw e (grind (arith, nat_tests))

  -- they agree with a valuation on the variables of a formula
  module _ (b : Board) (before count : ℕ) (v : Atom → Bool)
      (agree : (a : Atom) → Inside b count a → true_in m (pos (number b before a)) ≡ v a) where
    from_one : (a : Atom) → Inside b count a → 1 ≤ number b before a
    from_one (at c d) i = omega arith
    from_one (fresh j) i = omega arith

    literal_true : (l : Literal Atom) → Inside b count (variable l) → true_in m (signed (number b before) l) ≡ under v l
    literal_true (is a) i = agree a i
    literal_true (isnt a) i = negated (number b before a) (from_one a i) ∙ ap not (agree a i)

    pub numbered_out : (f : Formula Atom) → SpeaksOf (Inside b count) f → Holds (true_in m) (numbered (number b before) f) → Holds (under v) f
    numbered_out = mapped_out (true_in m) (under v) (signed (number b before)) (λ l. Inside b count (variable l)) literal_true

    pub numbered_in : (f : Formula Atom) → SpeaksOf (Inside b count) f → Holds (under v) f → Holds (true_in m) (numbered (number b before) f)
    numbered_in = mapped_in (true_in m) (under v) (signed (number b before)) (λ l. Inside b count (variable l)) literal_true
