-- The running totals are lawful.
use Rattle.std.proofs.Common.{◌≡◌, ℕ, zero, suc, ◌+◌, ◌-◌, ◌*◌, ◌/◌, ◌%◌, ◌<◌, ◌≤◌, Bool, true, false, cond, eqb, leb, List, [], ◌∷◌, ◌++◌, map, length, get_or, take, sym, ap, ◌∙◌, not-suc-le-zero, mul-le-mul, zero-add, add-one, one-add, arith}
use Rattle.std.specs.List.{range_with_len, AllByRecursion as Each}
use Rattle.std.proofs.ByRecursion.{All-append}
use Rattle.std.proofs.lemmas.List.{take_all, ext_get_or}
use Rattle.std.proofs.lemmas.List.FromFn.{length-map-range_with_len, get_or-map-range_with_len}
use Rattle.std.proofs.lemmas.Nat.{div-mul-add, mod-mul-add, div-add-mod', div_below, mod_below, mul-add-lt}
use Rattle.std.proofs.lemmas.Bool.Decides.{nat_tests}
use Rattle.formulas.specs.Formula.{is, isnt, Clause, Holds, under, some_true, variable, SizedClause}
use Rattle.formulas.proofs.All.{all_left, all_right}
use Rattle.totals.specs.Items.{Item, item, Valuation, valued, Known, Contained}
use Rattle.totals.specs.Totaller.{total, Exact, Lawful}
use Rattle.totals.specs.Running.{at, as_unless, first_row, step, row, rows, running}
use Rattle.totals.proofs.Formulas.{each_from_in, each_from_out, each_in, each_out}

-- what the clauses of a step say
step_out : (v : Valuation) (x p q r : Item) (b : Bool) →
    Holds (under v) (cond b (as_unless (isnt x) p q) ((isnt x ∷ isnt p ∷ []) ∷ []) ++ as_unless (is x) p r) →
    v p ≡ cond (v x) (cond b (v q) false) (v r)
step_out v x p q r b h = grind arith

step_in : (v : Valuation) (x p q r : Item) (b : Bool) →
    v p ≡ cond (v x) (cond b (v q) false) (v r) →
    Holds (under v) (cond b (as_unless (isnt x) p q) ((isnt x ∷ isnt p ∷ []) ∷ []) ++ as_unless (is x) p r)
step_in v x p q r b h = grind arith

-- one more item: which totals are reached
reach : (x : Bool) (s w u : ℕ) → cond x (cond (leb w u) (eqb s (u - w)) false) (eqb s u) ≡ eqb (s + cond x w 0) u
reach x s w u = grind (arith, nat_tests)

total_more : (ws : List ℕ) (xs : List Bool) (i : ℕ) → i < length ws → length xs ≡ length ws →
    total (take (suc i) ws) xs ≡ total (take i ws) xs + cond (get_or xs i false) (get_or ws i 0) 0
total_more [] xs i l e = absurd (not-suc-le-zero l)
total_more (w ∷ ws) [] i l e = omega arith
total_more (w ∷ ws) (x ∷ xs) zero l e = omega arith
total_more (w ∷ ws) (x ∷ xs) (suc i) l e = omega (arith, total_more ws xs i (omega arith) (omega arith))

module _ (ws : List ℕ) (t : ℕ) (xs : List Bool) where
  -- the total of the first i items
  abbrev sum : ℕ → ℕ
  sum i = total (take i ws) xs

  -- the table that the fresh variables must hold
  abbrev Right : List Bool → Type 0
  Right fs = (i u : ℕ) → i < length ws + 1 → u < t + 1 → valued xs fs (at t i u) ≡ eqb (sum i) u

  module _ (same : length xs ≡ length ws) where
    sum_all : sum (length ws) ≡ total ws xs
    sum_all = ap (λ l. total l xs) (take_all (length ws) ws (omega arith))

    move : (i u : ℕ) → i < length ws →
        cond (get_or xs i false) (cond (leb (get_or ws i 0) u) (eqb (sum i) (u - get_or ws i 0)) false) (eqb (sum i) u) ≡ eqb (sum (suc i)) u
    move i u l = reach (get_or xs i false) (sum i) (get_or ws i 0) u ∙ ap (λ n. eqb n u) (sym (total_more ws xs i l same))

    right : (fs : List Bool) → Holds (under (valued xs fs)) (running.formula ws t) → Right fs
    right fs h = go
      where
        ok : Clause Item → Type 0
        ok c = some_true (under (valued xs fs)) c ≡ true

        front : Each ok (first_row t)
        front = all_left ok (first_row t) (rows ws t) (all_left ok (first_row t ++ rows ws t) _ h)

        back : Each ok (rows ws t)
        back = all_right ok (first_row t) (rows ws t) (all_left ok (first_row t ++ rows ws t) _ h)

        go : Right fs
        go zero zero li lu = grind (arith, front.0)
        go zero (suc u) li lu =
            let k = rw one-add at (each_from_out ok (λ n. (isnt (at t 0 n) ∷ []) ∷ []) 1 t front.1 u (omega arith)) in
            grind (arith, nat_tests)
        go (suc i) u li lu =
            let w = get_or ws i 0 in
            let l : i < length ws = omega arith in
            let hs = each_out ok (step t i w) (t + 1) (each_out ok (row ws t) (length ws) back i l) u lu in
            let e = step_out (valued xs fs) (item i) (at t (i + 1) u) (at t i (u - w)) (at t i u) (leb w u) hs in
            cc (e, go i u (omega arith) lu, go i (u - w) (omega arith) (omega arith), move i u l, add-one i)

    -- a table that is right, with the total at the target, fulfils the clauses
    fulfil : (fs : List Bool) → Right fs → total ws xs ≡ t → Holds (under (valued xs fs)) (running.formula ws t)
    fulfil fs r e = All-append ok (first_row t ++ rows ws t) _ (All-append ok (first_row t) (rows ws t) front back) (last, tt)
      where
        ok : Clause Item → Type 0
        ok c = some_true (under (valued xs fs)) c ≡ true

        front : Each ok (first_row t)
        front = (
          grind (arith, r 0 0 (omega arith) (omega arith)),
          each_from_in ok (λ n. (isnt (at t 0 n) ∷ []) ∷ []) 1 t (λ k l.
              let f = r 0 (1 + k) (omega arith) (omega arith) in grind (arith, nat_tests)),
        )

        back : Each ok (rows ws t)
        back = each_in ok (row ws t) (length ws) (λ i l. each_in ok (step t i (get_or ws i 0)) (t + 1) (λ u lu.
            let w = get_or ws i 0 in
            step_in (valued xs fs) (item i) (at t (i + 1) u) (at t i (u - w)) (at t i u) (leb w u)
            (cc (r (i + 1) u (omega arith) lu, r i u (omega arith) lu, r i (u - w) (omega arith) (omega arith), move i u l, add-one i))))

        last : ok (is (at t (length ws) t) ∷ [])
        last =
            let f = r (length ws) t (omega arith) (omega arith) in
            let g : sum (length ws) ≡ t = sum_all ∙ e in
            grind (arith, nat_tests)

    -- one place of the table, by its number
    place : (fs : List Bool) → Right fs → (k : ℕ) → k < (length ws + 1) * (t + 1) →
        get_or fs k false ≡ eqb (sum (k / (t + 1))) (k % (t + 1))
    place fs r k l =
        ap (λ n. get_or fs n false) (sym (div-add-mod' k (t + 1))) ∙
        r (k / (t + 1)) (k % (t + 1)) (div_below k (t + 1) (length ws + 1) (omega arith) l) (mod_below k (t + 1) (omega arith))

    abbrev table : List Bool
    table = map (λ k. eqb (sum (k / (t + 1))) (k % (t + 1))) (range_with_len 0 ((length ws + 1) * (t + 1)))

    table_right : Right table
    table_right i u li lu =
        get_or-map-range_with_len (λ k. eqb (sum (k / (t + 1))) (k % (t + 1))) 0 ((length ws + 1) * (t + 1)) (i * (t + 1) + u) (i * (t + 1) + u) false
        (omega (arith, mul-add-lt i (t + 1) u (length ws + 1) li lu)) (zero-add _) ∙
        cc (div-mul-add i (t + 1) u lu, mod-mul-add i (t + 1) u lu)

    exact : Exact running ws t xs
    exact = record {
      only = λ fs f.
          let r = right fs f.holds (length ws) t (omega arith) (omega arith) in
          let h = (all_right (λ c. some_true (under (valued xs fs)) c ≡ true) (first_row t ++ rows ws t) _ f.holds).0 in
          grind (arith, nat_tests, sum_all);
      some = λ e. (table, record { size = length-map-range_with_len _ 0 _; holds = fulfil table table_right e });
      one = λ fs gs f g. ext_get_or false fs gs (f.size ∙ sym g.size) (λ k l.
          let m : k < (length ws + 1) * (t + 1) = omega (arith, f.size) in
          place fs (right fs f.holds) k m ∙ sym (place gs (right gs g.holds) k m));
    }

step_contained : (m n : ℕ) (x p q r : Item) (b : Bool) → Known m n x → Known m n p → Known m n q → Known m n r →
    Contained m n (cond b (as_unless (isnt x) p q) ((isnt x ∷ isnt p ∷ []) ∷ []) ++ as_unless (is x) p r)
step_contained m n x p q r true hx hp hq hr = search parts 20
step_contained m n x p q r false hx hp hq hr = search parts 20

contained : (ws : List ℕ) (t : ℕ) → Contained (length ws) (running.fresh_count ws t) (running.formula ws t)
contained ws t =
    All-append ok (first_row t ++ rows ws t) _
    (All-append ok (first_row t) (rows ws t) (
      (place 0 0 (omega arith) (omega arith), tt),
      each_from_in ok (λ n. (isnt (at t 0 n) ∷ []) ∷ []) 1 t (λ k l. ((place 0 (1 + k) (omega arith) (omega arith), tt), tt)),
    )
    (each_in ok (row ws t) (length ws) (λ i l. each_in ok (step t i (get_or ws i 0)) (t + 1) (λ u lu.
    let w = get_or ws i 0 in
    step_contained (length ws) _ (item i) (at t (i + 1) u) (at t i (u - w)) (at t i u) (leb w u)
    l (place (i + 1) u (omega arith) lu) (place i (u - w) (omega arith) (omega arith)) (place i u (omega arith) lu)))))
    ((place (length ws) t (omega arith) (omega arith), tt), tt)
  where
    ok : Clause Item → Type 0
    ok c = Each (λ l. Known (length ws) ((length ws + 1) * (t + 1)) (variable l)) c

    place : (i u : ℕ) → i < length ws + 1 → u < t + 1 → i * (t + 1) + u < (length ws + 1) * (t + 1)
    place i u li lu = omega (arith, mul-add-lt i (t + 1) u (length ws + 1) li lu)

step_sized : (x p q r : Item) (b : Bool) → Each SizedClause (cond b (as_unless (isnt x) p q) ((isnt x ∷ isnt p ∷ []) ∷ []) ++ as_unless (is x) p r)
step_sized x p q r true = (omega arith, (omega arith, (omega arith, (omega arith, tt))))
step_sized x p q r false = (omega arith, (omega arith, (omega arith, tt)))

sized : (ws : List ℕ) (t : ℕ) → Each SizedClause (running.formula ws t)
sized ws t =
    All-append ok (first_row t ++ rows ws t) _
    (All-append ok (first_row t) (rows ws t)
    (omega arith, each_from_in ok (λ n. (isnt (at t 0 n) ∷ []) ∷ []) 1 t (λ k l. (omega arith, tt)))
    (each_in ok (row ws t) (length ws) (λ i l. each_in ok (step t i (get_or ws i 0)) (t + 1) (λ u lu.
    let w = get_or ws i 0 in step_sized (item i) (at t (i + 1) u) (at t i (u - w)) (at t i u) (leb w u)))))
    (omega arith, tt)
  where
    ok : Clause Item → Type 0
    ok c = (1 ≤ length c) × (length c ≤ 16)

ready : (n t : ℕ) → 1 ≤ n → n ≤ 8 → t ≤ 10 → running.takes n t ≡ true
ready n t l u v =
    let p : n + 1 ≤ 9 = omega arith in
    let q : t + 1 ≤ 11 = omega arith in
    let small : (n + 1) * (t + 1) ≤ 9 * 11 = mul-le-mul p q in
    grind (arith, nat_tests)

bounded : (n t : ℕ) → running.takes n t ≡ true → (1 ≤ n) × (n ≤ 96)
bounded n t h = (grind (arith, nat_tests), grind (arith, nat_tests))

pub running_lawful : Lawful running
running_lawful = record {
  sound = λ ws t weights takes. record { contained = contained ws t; sized = sized ws t; exact = exact ws t };
  ready = ready;
  bounded = bounded;
}
