-- Among numbers in a row, just one passes a test.
use Rattle.std.proofs.Common.{◌≡◌, ℕ, zero, suc, ◌+◌, ◌<◌, ◌≤◌, Bool, true, false, not, ◌||◌, eqb, List, [], ◌∷◌, map, filter, sym, refl, ap, ◌∙◌, subst, inl, inr, arith}
use Rattle.std.specs.List.{range_with_len}
use Rattle.std.proofs.lemmas.Bool.{cases_eq, cases_Bool, eq-eqb, ne_eqb, cases_order}
use Rattle.formulas.specs.Formula.{some_true}

pub some_map : {X Y : Type 0} (p : X → Bool) (f : Y → X) (ys : List Y) → some_true p (map f ys) ≡ some_true (λ y. p (f y)) ys
some_map p f [] = refl
some_map p f (y ∷ ys) = ap (λ b. p (f y) || b) (some_map p f ys)

module _ (p : ℕ → Bool) where
  pub some_out : (a n : ℕ) → some_true p (range_with_len a n) ≡ true → (d : ℕ) × (a ≤ d) × (d < a + n) × (p d ≡ true)
  some_out a zero h = absurd (grind arith)
  some_out a (suc n) h =
      elim (cases_Bool (p a)) [
        | inl e ↦ (a, omega arith, omega arith, e)
        | inr e ↦ let (d, l, u, t) = some_out (a + 1) n (grind arith) in (d, omega arith, omega arith, t)
      ]

  pub some_in : (a n d : ℕ) → a ≤ d → d < a + n → p d ≡ true → some_true p (range_with_len a n) ≡ true
  some_in a zero d l u h = absurd (omega arith)
  some_in a (suc n) d l u h =
      elim (cases_eq a d) [
        | inl e ↦ grind (arith, ap p e)
        | inr e ↦ let k = some_in (a + 1) n d (omega arith) (omega arith) h in grind arith
      ]

  -- p is true of d alone
  abbrev pub Only : ℕ → ℕ → ℕ → Type 0
  Only a n d = (x : ℕ) → a ≤ x → x < a + n → p x ≡ eqb d x

  pub none_kept : (a n : ℕ) → ((x : ℕ) → a ≤ x → x < a + n → p x ≡ false) → filter p (range_with_len a n) ≡ []
  none_kept a zero h = refl
  none_kept a (suc n) h = rw (h a (omega arith) (omega arith)) (none_kept (a + 1) n (λ x l u. h x (omega arith) (omega arith)))

  pub all_passed : (a n : ℕ) → filter p (range_with_len a n) ≡ [] → (x : ℕ) → a ≤ x → x < a + n → p x ≡ false
  all_passed a zero h x l u = absurd (omega arith)
  all_passed a (suc n) h x l u =
      elim (cases_Bool (p a)) [
        | inl e ↦ grind arith
        | inr e ↦ elim (cases_eq a x) [
          | inl f ↦ subst (λ z. p z ≡ false) f e
          | inr f ↦ all_passed (a + 1) n (grind arith) x (omega arith) (omega arith)
        ]
      ]

  pub one_kept : (a n d : ℕ) → a ≤ d → d < a + n → Only a n d → filter p (range_with_len a n) ≡ d ∷ []
  one_kept a zero d l u h = absurd (omega arith)
  one_kept a (suc n) d l u h =
      elim (cases_eq d a) [
        | inl e ↦
            let t : p a ≡ true = h a (omega arith) (omega arith) ∙ eq-eqb d a e in
            let r = none_kept (a + 1) n (λ x k v. h x (omega arith) (omega arith) ∙ ne_eqb d x (λ q. omega arith)) in
            rw (t, r, e) refl
        | inr e ↦
            let t : p a ≡ false = h a (omega arith) (omega arith) ∙ ne_eqb d a e in
            rw t (one_kept (a + 1) n d (omega arith) (omega arith) (λ x k v. h x (omega arith) (omega arith)))
      ]

  pub one_told : (a n d : ℕ) → filter p (range_with_len a n) ≡ d ∷ [] → (a ≤ d) × (d < a + n) × Only a n d
  one_told a zero d h = grind arith
  one_told a (suc n) d h =
      elim (cases_Bool (p a)) [
        | inl e ↦
            let f : a ≡ d = grind arith in
            let k = all_passed (a + 1) n (grind arith) in (
              omega arith,
              omega arith,
              λ x l u. elim (cases_eq a x) [
                | inl g ↦ ap p (sym g) ∙ e ∙ sym (eq-eqb d x (sym f ∙ g))
                | inr g ↦ k x (omega arith) (omega arith) ∙ sym (ne_eqb d x (λ q. omega arith))
              ],
            )
        | inr e ↦
            let (l, u, k) = one_told (a + 1) n d (grind arith) in (
              omega arith,
              omega arith,
              λ x m v. elim (cases_eq a x) [
                | inl g ↦ ap p (sym g) ∙ e ∙ sym (ne_eqb d x (λ q. omega arith))
                | inr g ↦ k x (omega arith) (omega arith)
              ],
            )
      ]

  -- one that passes, and no two that do
  pub only_one : (a n d : ℕ) → a ≤ d → d < a + n → p d ≡ true →
      ((x y : ℕ) → a ≤ x → x < y → y < a + n → not (p x) || (not (p y) || false) ≡ true) → Only a n d
  only_one a n d l u t h x m v =
      elim (cases_order x d) [
        | inl e ↦ ap p e ∙ t ∙ sym (eq-eqb d x (sym e))
        | inr o ↦ elim o [
          | inl k ↦ let c = h x d m k u in let e : p x ≡ false = grind arith in e ∙ sym (ne_eqb d x (λ q. omega arith))
          | inr k ↦ let c = h d x l k v in let e : p x ≡ false = grind arith in e ∙ sym (ne_eqb d x (λ q. omega arith))
        ]
      ]
