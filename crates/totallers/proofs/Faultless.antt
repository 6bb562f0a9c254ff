-- Where nothing is wrong with what is handed in.
use Rattle.std.proofs.Common.{◌≡◌, ℕ, zero, suc, ◌+◌, ◌<◌, ◌≤◌, true, ◌||◌, eqb, leb, List, [], ◌∷◌, length, get_or, Some, None, Option, refl, inl, inr, arith}
use Rattle.std.specs.Option.{option_or}
use Rattle.std.proofs.lemmas.Bool.{cases_Bool}
use Rattle.std.proofs.lemmas.Bool.Decides.{nat_tests}
use Rattle.totals.specs.Totaller.{Totaller}
use Rattle.totallers.specs.Writing.{good_item, good_items, items_fault, ready_fault, taking_fault}

pub both_none : {X : Type 0} (a b : Option X) → option_or a b ≡ None → (a ≡ None) × (b ≡ None)
both_none None b e = (refl, e)
both_none (Some x) b e = grind arith

items_none : (vs ws : List ℕ) (f : ℕ) → items_fault vs ws f ≡ None → (length vs ≡ length ws) × (1 ≤ length vs) × (good_items f vs ws ≡ length vs)
items_none vs ws f e = grind (arith, nat_tests)

each_good : (f : ℕ) (vs ws : List ℕ) → good_items f vs ws ≡ length vs → (i : ℕ) → i < length vs → good_item f (get_or vs i 0) (get_or ws i 0) ≡ true
each_good f [] ws e i l = absurd (omega arith)
each_good f (v ∷ vs) [] e i l = absurd (omega arith)
each_good f (v ∷ vs) (w ∷ ws) e i l =
    elim (cases_Bool (good_item f v w)) [
      | inl g ↦
          let n : good_items f (v ∷ vs) (w ∷ ws) ≡ suc (good_items f vs ws) = rw g in
          at_each i g (λ j k. each_good f vs ws (omega arith) j k) l
      | inr g ↦ absurd (let n : good_items f (v ∷ vs) (w ∷ ws) ≡ 0 = rw g in omega arith)
    ]
  where
    at_each : (i : ℕ) → good_item f v w ≡ true → ((j : ℕ) → j < length vs → good_item f (get_or vs j 0) (get_or ws j 0) ≡ true) → i < length (v ∷ vs) →
        good_item f (get_or (v ∷ vs) i 0) (get_or (w ∷ ws) i 0) ≡ true
    at_each zero g h l = g
    at_each (suc j) g h l = h j (omega arith)

good_bounds : (f v w : ℕ) → good_item f v w ≡ true → (1 ≤ v) × (v ≤ 65535) × (v < f)
good_bounds f v w h = (grind (arith, nat_tests), grind (arith, nat_tests), grind (arith, nat_tests))

pub taking_none : (𝓣 : Totaller) (ws : List ℕ) (t f : ℕ) → taking_fault 𝓣 ws t f ≡ None →
    (𝓣.takes (length ws) t ≡ true) × ((eqb (𝓣.fresh_count ws t) 0 || leb (f + 𝓣.fresh_count ws t) 65536) ≡ true)
taking_none 𝓣 ws t f e = (grind (arith, nat_tests), grind (arith, nat_tests))

-- the items are good, the totaller takes them, and their fresh numbers fit
pub record Faultless (𝓣 : Totaller) (vs ws : List ℕ) (t f : ℕ) : Type 0 where
  pub same : length vs ≡ length ws
  pub some : 1 ≤ length vs
  pub items : (i : ℕ) → i < length vs → (1 ≤ get_or vs i 0) × (get_or vs i 0 ≤ 65535) × (get_or vs i 0 < f)
  pub takes : 𝓣.takes (length ws) t ≡ true
  pub fits : (eqb (𝓣.fresh_count ws t) 0 || leb (f + 𝓣.fresh_count ws t) 65536) ≡ true

pub faultless : (𝓣 : Totaller) (vs ws : List ℕ) (t f : ℕ) → ready_fault 𝓣 vs ws t f ≡ None → Faultless 𝓣 vs ws t f
faultless 𝓣 vs ws t f e =
    let parts = both_none (items_fault vs ws f) (taking_fault 𝓣 ws t f) e in
    let items = items_none vs ws f parts.0 in
    let taking = taking_none 𝓣 ws t f parts.1 in
    record {
      same = items.0;
      some = items.1;
      items = λ i l. good_bounds f (get_or vs i 0) (get_or ws i 0) (each_good f vs ws items.2 i l);
      takes = taking.0;
      fits = taking.1;
    }
