-- Adders each of which adds items and what earlier ones gave: their fresh variables have one value each.
use Rattle.std.proofs.Common.{◌≡◌, ℕ, ◌+◌, ◌*◌, ◌≤◌, Bool, false, List, [], ◌∷◌, ◌++◌, length, get_or, sym, refl, ap, ◌∙◌, inl, inr, arith}
use Rattle.std.specs.List.{AllByRecursion as Each}
use Rattle.std.proofs.ByRecursion.{All-append, All-weaker}
use Rattle.std.proofs.lemmas.List.{length-append, get_or_append_left, get_or-append-add, get_or_at}
use Rattle.std.proofs.lemmas.Bool.{cases_eq}
use Rattle.formulas.specs.Formula.{Holds, under}
use Rattle.formulas.proofs.All.{all_left, all_right}
use Rattle.totals.specs.Items.{Item, item, fresh, Valuation, valued, Known, Contained}
use Rattle.totals.specs.Adders.{Adder, adder_clauses, wired}
use Rattle.totals.proofs.Adder.{bit, ones, inputs, adder_in, adder_out, at_most_three, two_bits, same_bits, adder_contained}

-- the adder that gives n and n + 1 adds items below c and fresh variables below n, and so on
abbrev pub Made : ℕ → ℕ → List (Adder Item) → Type 0
Made c n [] = Unit {0}
Made c n (g ∷ gs) = Each (Known c n) (inputs g) × Made c (n + 2) gs

abbrev pub Same : ℕ → ℕ → Valuation → Valuation → Type 0
Same c n v v' = (a : Item) → Known c n a → v a ≡ v' a

pub inside_more : (c m n : ℕ) → m ≤ n → (a : Item) → Known c m a → Known c n a
inside_more c m n l (item i) h = h
inside_more c m n l (fresh j) h = omega arith

pub all_inside : (c m n : ℕ) → m ≤ n → (ls : List Item) → Each (Known c m) ls → Each (Known c n) ls
all_inside c m n l ls h = All-weaker (Known c m) (Known c n) (inside_more c m n l) ls h

same_ones : (c n : ℕ) (v v' : Valuation) → Same c n v v' → (ls : List Item) → Each (Known c n) ls → ones v ls ≡ ones v' ls
same_ones c n v v' s [] h = refl
same_ones c n v v' s (a ∷ ls) h = cc (s a h.0, same_ones c n v v' s ls h.1)

-- one adder more
same_step : (c n : ℕ) (v v' : Valuation) (g : Adder Item) → Each (Known c n) (inputs g) → Same c n v v' →
    Holds (under v) (adder_clauses fresh n g) → Holds (under v') (adder_clauses fresh n g) → Same c (n + 2) v v'
same_step c n v v' g b s h h' (item i) l = s (item i) l
same_step c n v v' g b s h h' (fresh j) l =
    let e = same_bits (v (fresh n)) (v (fresh (n + 1))) (v' (fresh n)) (v' (fresh (n + 1)))
    (sym (adder_out v n g h) ∙ same_ones c n v v' s (inputs g) b ∙ adder_out v' n g h') in
    elim (cases_eq j n) [
      | inl p ↦ rw p e.0
      | inr p ↦ elim (cases_eq j (n + 1)) [ inl q ↦ rw q e.1 | inr q ↦ s (fresh j) (omega arith) ]
    ]

pub same_all : (gs : List (Adder Item)) (c n : ℕ) (v v' : Valuation) → Made c n gs → Same c n v v' →
    Holds (under v) (wired fresh n gs) → Holds (under v') (wired fresh n gs) → Same c (n + 2 * length gs) v v'
same_all [] c n v v' m s h h' a l = s a (inside_more c (n + 2 * 0) n (omega arith) a l)
same_all (g ∷ gs) c n v v' m s h h' a l =
    let s₂ = same_step c n v v' g m.0 s (all_left _ (adder_clauses fresh n g) _ h) (all_left _ (adder_clauses fresh n g) _ h') in
    same_all gs c (n + 2) v v' m.1 s₂ (all_right _ (adder_clauses fresh n g) _ h) (all_right _ (adder_clauses fresh n g) _ h') a
    (inside_more c (n + 2 * length (g ∷ gs)) (n + 2 + 2 * length gs) (omega arith) a l)

-- there are such values: each adder gives the next two
pub record Extends (gs : List (Adder Item)) (c n : ℕ) (xs fs fs' : List Bool) : Type 0 where
  pub size : length fs' ≡ n + 2 * length gs
  pub same : Same c n (valued xs fs) (valued xs fs')
  pub holds : Holds (under (valued xs fs')) (wired fresh n gs)

given_more : (c n : ℕ) (xs fs gs : List Bool) → length fs ≡ n → Same c n (valued xs fs) (valued xs (fs ++ gs))
given_more c n xs fs gs e (item i) l = refl
given_more c n xs fs gs e (fresh j) l = sym (get_or_append_left fs gs false j (omega arith))

extend_step : (g : Adder Item) (gs : List (Adder Item)) (c n : ℕ) (xs fs : List Bool) → Each (Known c n) (inputs g) → length fs ≡ n → (s t : Bool) →
    ones (valued xs fs) (inputs g) ≡ bit s + 2 * bit t → (fs' : List Bool) → Extends gs c (n + 2) xs (fs ++ s ∷ t ∷ []) fs' →
    Extends (g ∷ gs) c n xs fs fs'
extend_step g gs c n xs fs b e s t p fs' r =
    record {
      size = omega (arith, r.size);
      same = kept;
      holds = All-append _ (adder_clauses fresh n g) _
          (adder_in (valued xs fs') n g (cc (same_ones c n (valued xs fs) (valued xs fs') kept (inputs g) b, at_s, at_t)))
          r.holds;
    }
  where
    kept : Same c n (valued xs fs) (valued xs fs')
    kept a l = given_more c n xs fs (s ∷ t ∷ []) e a l ∙ r.same a (inside_more c n (n + 2) (omega arith) a l)

    at_s : valued xs fs' (fresh n) ≡ s
    at_s = sym (r.same (fresh n) (omega arith)) ∙ get_or_at fs s (t ∷ []) false n e

    at_t : valued xs fs' (fresh (n + 1)) ≡ t
    at_t =
        sym (r.same (fresh (n + 1)) (omega arith)) ∙ ap (λ k. get_or (fs ++ s ∷ t ∷ []) (k + 1) false) (sym e) ∙
        get_or-append-add fs (s ∷ t ∷ []) 1 false

pub extend : (gs : List (Adder Item)) (c n : ℕ) (xs fs : List Bool) → Made c n gs → length fs ≡ n → (fs' : List Bool) × Extends gs c n xs fs fs'
extend [] c n xs fs m e = (fs, record { size = omega arith; same = λ a l. refl; holds = tt })
extend (g ∷ gs) c n xs fs m e =
    let (s, t, p) = two_bits (ones (valued xs fs) (inputs g)) (at_most_three (valued xs fs) g) in
    let (fs', r) = extend gs c (n + 2) xs (fs ++ s ∷ t ∷ []) m.1 (length-append fs (s ∷ t ∷ []) ∙ ap (λ k. k + 2) e) in
    (fs', extend_step g gs c n xs fs m.0 e s t p fs' r)

-- the adders' clauses speak of nothing else
pub wired_contained : (gs : List (Adder Item)) (c n m : ℕ) → n + 2 * length gs ≤ m → Made c n gs → Contained c m (wired fresh n gs)
wired_contained [] c n m l h = tt
wired_contained (g ∷ gs) c n m l h =
    All-append _ (adder_clauses fresh n g) (wired fresh (n + 2) gs)
    (adder_contained c m n g (omega arith) (all_inside c n m (omega arith) (inputs g) h.0))
    (wired_contained gs c (n + 2) m (omega arith) h.1)
