-- Clauses that are put one list after the other.
use Rattle.std.proofs.Common.{◌≡◌, ℕ, suc, ◌+◌, ◌-◌, ◌<◌, ◌≤◌, true, false, cond, leb, List, [], ◌∷◌, ◌++◌, length, get_or, take, drop, ℤ, is_ok, IsErrAnd, Some, None, Ok, Err, sum_by, Option, Result, sym, refl, ap, ◌∙◌, subst, ap₂, inl, inr, append_assoc, append-nil, arith}
use Rattle.std.specs.List.{flat_map}
use Rattle.std.specs.Option.{option_or}
use Rattle.std.specs.Result.{result_err}
use lib.Seq.{take-append-add}
use Rattle.std.proofs.lemmas.List.{length-append, take_all, take-append-le, take_more}
use Rattle.std.proofs.lemmas.List.Sums.{sum_by-append, sum_by-cons}
use Rattle.std.proofs.lemmas.Bool.{and_parts, cases_Bool, cond-true, cond-false, le-leb, leb-true, lt-leb, leb-false}
use Rattle.std.proofs.lemmas.Bool.Decides.{nat_tests}
use Rattle.formulas.specs.Clause.{every, right_length, usable, valid}
use Rattle.formulas.proofs.Lists.{joined_append, joined_split}
use Rattle.places.specs.declared.fault.PlaceFault.{PlaceFault}
use Rattle.places.specs.declared.fault.PlaceFault.TheVariants.{NoSpace}
use Rattle.places.specs.Put.{put_fault}
use Rattle.places.specs.declared.place.Place.{Ghosts}
use Rattle.places.specs.Written.{fitting, Wrote, Writes}

-- what a put of a valid clause answers
put_valid : (charge : List ℤ → ℕ) (c : List ℤ) (held : List (List ℤ)) (free : ℕ) → valid c ≡ true →
    put_fault charge c held free ≡ cond (leb (charge c) free) None (Some (NoSpace (length held)))
put_valid charge c held free ok =
    let both = and_parts (right_length c) (every usable c) ok in
    ap (λ o. option_or o (cond (leb (charge c) free) None (Some (NoSpace (length held)))))
    (cond-true (right_length c) _ _ both.0 ∙ cond-true (every usable c) _ _ both.1)

ok_from_none : (r : Result Unit PlaceFault) → result_err r ≡ None → is_ok r ≡ true
ok_from_none (Ok u) e = refl
ok_from_none (Err f) e = grind arith

err_from_some : (r : Result Unit PlaceFault) (f : PlaceFault) → result_err r ≡ Some f → is_ok r ≡ false
err_from_some (Ok u) f e = grind arith
err_from_some (Err g) f e = refl

module _ (charge : List ℤ → ℕ) where
  fitting_all : (free : ℕ) (cs ds : List (List ℤ)) → sum_by charge cs ≤ free →
      fitting charge free (cs ++ ds) ≡ length cs + fitting charge (free - sum_by charge cs) ds
  fitting_all free [] ds l = let e : free - 0 ≡ free = omega arith in omega (arith, ap (λ n. fitting charge n ds) e)
  fitting_all free (c ∷ cs) ds l =
      let s = sum_by-cons charge c cs in
      let ih = fitting_all (free - charge c) cs ds (omega arith) in
      let e : free - charge c - sum_by charge cs ≡ free - sum_by charge (c ∷ cs) = omega arith in
      cond-true (leb (charge c) free) _ _ (le-leb (charge c) free (omega arith)) ∙
      ap suc (ih ∙ ap (λ n. length cs + fitting charge n ds) e) ∙ omega arith

  fitting_stops : (free : ℕ) (cs ds : List (List ℤ)) → free < sum_by charge cs → fitting charge free (cs ++ ds) ≡ fitting charge free cs
  fitting_stops free [] ds l = absurd (omega arith)
  fitting_stops free (c ∷ cs) ds l =
      let s = sum_by-cons charge c cs in
      elim (cases_Bool (leb (charge c) free)) [
        | inl e ↦ let h = leb-true (charge c) free e in rw e (ap suc (fitting_stops (free - charge c) cs ds (omega arith)))
        | inr e ↦ rw e
      ]

  fitting_le : (free : ℕ) (cs : List (List ℤ)) → fitting charge free cs ≤ length cs
  fitting_le free [] = omega arith
  fitting_le free (c ∷ cs) =
      elim (cases_Bool (leb (charge c) free)) [
        | inl e ↦ rw e (omega (arith, fitting_le (free - charge c) cs))
        | inr e ↦ rw e (omega arith)
      ]

  fitting_lt : (free : ℕ) (cs : List (List ℤ)) → free < sum_by charge cs → fitting charge free cs < length cs
  fitting_lt free [] l = absurd (omega arith)
  fitting_lt free (c ∷ cs) l =
      let s = sum_by-cons charge c cs in
      elim (cases_Bool (leb (charge c) free)) [
        | inl e ↦ let h = leb-true (charge c) free e in rw e (omega (arith, fitting_lt (free - charge c) cs (omega arith)))
        | inr e ↦ rw e (omega arith)
      ]

  -- no fault: all are there
  pub wrote_all : (cs held : List (List ℤ)) (free : ℕ) (held' : List (List ℤ)) (free' : ℕ) → Wrote charge cs held free held' free' None →
      (sum_by charge cs ≤ free) × (held' ≡ held ++ cs) × (free' + sum_by charge cs ≡ free)
  wrote_all cs held free held' free' w =
      let fits : sum_by charge cs ≤ free = elim (cases_Bool (leb (sum_by charge cs) free)) [
        | inl e ↦ leb-true (sum_by charge cs) free e
        | inr e ↦ let n = w.ended ∙ cond-false (leb (sum_by charge cs) free) _ _ e in grind arith
      ] in
      let whole : take (fitting charge free cs) cs ≡ cs =
      let n = fitting_all free cs [] fits in take_all (fitting charge free cs) cs (omega (arith, ap (fitting charge free) (append-nil cs))) in
      (fits, w.holds ∙ ap (λ l. held ++ l) whole, ap (λ l. free' + sum_by charge l) (sym whole) ∙ w.room)

  -- a fault: the charges exceed the space
  wrote_some : (cs held : List (List ℤ)) (free : ℕ) (held' : List (List ℤ)) (free' : ℕ) (f : PlaceFault) → Wrote charge cs held free held' free' (Some f) →
      free < sum_by charge cs
  wrote_some cs held free held' free' f w =
      elim (cases_Bool (leb (sum_by charge cs) free)) [
        | inl e ↦ let n = w.ended ∙ cond-true (leb (sum_by charge cs) free) _ _ e in grind arith
        | inr e ↦ leb-false (sum_by charge cs) free e
      ]

  pub wrote_none : (held : List (List ℤ)) (free : ℕ) → Wrote charge [] held free held free None
  wrote_none held free = record { ended = sym (cond-true (leb 0 free) _ _ (le-leb 0 free (omega arith))); holds = sym (append-nil held); room = omega arith }

  -- one list after another
  pub wrote_then : (cs ds held : List (List ℤ)) (free : ℕ) (held' : List (List ℤ)) (free' : ℕ) (held'' : List (List ℤ)) (free'' : ℕ) (o : Option PlaceFault) →
      Wrote charge cs held free held' free' None → Wrote charge ds held' free' held'' free'' o → Wrote charge (cs ++ ds) held free held'' free'' o
  wrote_then cs ds held free held' free' held'' free'' o w v =
      let (fits, all, gone) = wrote_all cs held free held' free' w in
      let left : free - sum_by charge cs ≡ free' = omega arith in
      let n : fitting charge free (cs ++ ds) ≡ length cs + fitting charge free' ds =
      fitting_all free cs ds fits ∙ ap (λ k. length cs + fitting charge k ds) left in
      let t : take (fitting charge free (cs ++ ds)) (cs ++ ds) ≡ cs ++ take (fitting charge free' ds) ds =
      ap (λ k. take k (cs ++ ds)) n ∙ take-append-add cs ds (fitting charge free' ds) in
      let s = sum_by-append charge cs ds in
      let test : leb (sum_by charge ds) free' ≡ leb (sum_by charge (cs ++ ds)) free = grind (arith, nat_tests) in
      let at : length held' + fitting charge free' ds ≡ length held + fitting charge free (cs ++ ds) =
      omega (arith, ap length all, length-append held cs, n) in
      record {
        ended = v.ended ∙ ap₂ (λ b k. cond b None (Some (NoSpace k))) test at;
        holds = v.holds ∙ ap (λ l. l ++ take (fitting charge free' ds) ds) all ∙ append_assoc held cs (take (fitting charge free' ds) ds) ∙ ap (λ l. held ++ l) (sym t);
        room = omega (arith, ap (sum_by charge) t, sum_by-append charge cs (take (fitting charge free' ds) ds), v.room);
      }

  -- what would have come after a fault does not come
  pub wrote_stops : (cs ds held : List (List ℤ)) (free : ℕ) (held' : List (List ℤ)) (free' : ℕ) (f : PlaceFault) →
      Wrote charge cs held free held' free' (Some f) → Wrote charge (cs ++ ds) held free held' free' (Some f)
  wrote_stops cs ds held free held' free' f w =
      let more = wrote_some cs held free held' free' f w in
      let n = fitting_stops free cs ds more in
      let t : take (fitting charge free (cs ++ ds)) (cs ++ ds) ≡ take (fitting charge free cs) cs =
      ap (λ k. take k (cs ++ ds)) n ∙ take-append-le (fitting charge free cs) cs ds (fitting_le free cs) in
      let no : leb (sum_by charge cs) free ≡ false = lt-leb (sum_by charge cs) free more in
      let no' : leb (sum_by charge (cs ++ ds)) free ≡ false = lt-leb (sum_by charge (cs ++ ds)) free (omega (arith, sum_by-append charge cs ds)) in
      record {
        ended = w.ended ∙ cond-false (leb (sum_by charge cs) free) _ _ no ∙ ap (λ k. Some (NoSpace (length held + k))) (sym n) ∙
            sym (cond-false (leb (sum_by charge (cs ++ ds)) free) _ _ no');
        holds = w.holds ∙ ap (λ l. held ++ l) (sym t);
        room = ap (λ l. free' + sum_by charge l) t ∙ w.room;
      }

  -- one clause that any place takes
  pub wrote_put : (c : List ℤ) → valid c ≡ true → (held : List (List ℤ)) (free : ℕ) (held' : List (List ℤ)) (free' : ℕ) (r : Result Unit PlaceFault) →
      result_err r ≡ put_fault charge c held free → held' ≡ cond (is_ok r) (held ++ c ∷ []) held → free' ≡ cond (is_ok r) (free - charge c) free →
      Wrote charge (c ∷ []) held free held' free' (result_err r)
  wrote_put c ok held free held' free' r fault holds room =
      let e : result_err r ≡ cond (leb (charge c) free) None (Some (NoSpace (length held))) = fault ∙ put_valid charge c held free ok in
      let s : sum_by charge (c ∷ []) ≡ charge c = sum_by-cons charge c [] ∙ omega arith in
      elim (cases_Bool (leb (charge c) free)) [
        | inl y ↦
            let none : result_err r ≡ None = e ∙ cond-true (leb (charge c) free) _ _ y in
            let o = ok_from_none r none in
            let n : fitting charge free (c ∷ []) ≡ 1 = cond-true (leb (charge c) free) _ _ y in
            let l = leb-true (charge c) free y in
            record {
              ended = none ∙ sym (cond-true (leb (sum_by charge (c ∷ [])) free) _ _ (le-leb _ _ (omega arith)));
              holds = holds ∙ cond-true (is_ok r) _ _ o ∙ ap (λ k. held ++ take k (c ∷ [])) (sym n);
              room = ap (λ k. free' + sum_by charge (take k (c ∷ []))) n ∙ omega (arith, room ∙ cond-true (is_ok r) _ _ o);
            }
        | inr y ↦
            let some : result_err r ≡ Some (NoSpace (length held)) = e ∙ cond-false (leb (charge c) free) _ _ y in
            let o = err_from_some r (NoSpace (length held)) some in
            let n : fitting charge free (c ∷ []) ≡ 0 = cond-false (leb (charge c) free) _ _ y in
            let l = leb-false (charge c) free y in
            record {
              ended = some ∙ ap (λ k. Some (NoSpace k)) (omega arith) ∙ sym (cond-false (leb (sum_by charge (c ∷ [])) free) _ _ (lt-leb _ _ (omega arith)));
              holds = holds ∙ cond-false (is_ok r) _ _ o ∙ sym (append-nil held) ∙ ap (λ k. held ++ take k (c ∷ [])) (sym n);
              room = ap (λ k. free' + sum_by charge (take k (c ∷ []))) n ∙ omega (arith, room ∙ cond-false (is_ok r) _ _ o);
            }
      ]

-- The same of a place of any type, in its states p, q and r.
module _ {P : Type 0} (𝓟 : Ghosts P) where
  pub writes_none : (p : P) → Writes 𝓟 [] p p None
  writes_none p = wrote_none 𝓟.charge (𝓟.held p) (𝓟.free p)

  pub writes_then : (cs ds : List (List ℤ)) (p q r : P) (o : Option PlaceFault) → Writes 𝓟 cs p q None → Writes 𝓟 ds q r o → Writes 𝓟 (cs ++ ds) p r o
  writes_then cs ds p q r o w v =
      wrote_then 𝓟.charge cs ds (𝓟.held p) (𝓟.free p) (𝓟.held q) (𝓟.free q) (𝓟.held r) (𝓟.free r) o w v

  pub writes_stops : (cs ds : List (List ℤ)) (p q : P) (f : PlaceFault) → Writes 𝓟 cs p q (Some f) → Writes 𝓟 (cs ++ ds) p q (Some f)
  writes_stops cs ds p q f w = wrote_stops 𝓟.charge cs ds (𝓟.held p) (𝓟.free p) (𝓟.held q) (𝓟.free q) f w

  -- one clause that any place takes: the code has it as d
  pub writes_put : (d c : List ℤ) → d ≡ c → valid c ≡ true → (p q : P) (r : Result Unit PlaceFault) →
      result_err r ≡ put_fault 𝓟.charge d (𝓟.held p) (𝓟.free p) → 𝓟.held q ≡ cond (is_ok r) (𝓟.held p ++ d ∷ []) (𝓟.held p) →
      𝓟.free q ≡ cond (is_ok r) (𝓟.free p - 𝓟.charge d) (𝓟.free p) → Writes 𝓟 (c ∷ []) p q (result_err r)
  writes_put d c e ok p q r fault holds room =
      let P = λ (x : List ℤ). Writes 𝓟 (x ∷ []) p q (result_err r) in
      subst P e (wrote_put 𝓟.charge d (ap valid e ∙ ok) (𝓟.held p) (𝓟.free p) (𝓟.held q) (𝓟.free q) r fault holds room)

  -- what a `?` hands on
  pub writes_exit : (cs : List (List ℤ)) (p q : P) (f : PlaceFault) (e : Result Unit PlaceFault) → IsErrAnd e (λ y. y ≡ f) → Writes 𝓟 cs p q (Some f) →
      Writes 𝓟 cs p q (result_err e)
  writes_exit cs p q f (Ok u) by w = absurd by
  writes_exit cs p q f (Err y) by w = subst (λ z. Writes 𝓟 cs p q (Some z)) (sym by) w

  -- A loop over xs that writes F x for each x in turn, and so cs: i of them are written.
  module _ {X : Type 0} (F : X → List (List ℤ)) (xs : List X) (cs : List (List ℤ)) (whole : cs ≡ flat_map F xs)
      (p q : P) (i : ℕ) (w : Writes 𝓟 (flat_map F (take i xs)) p q None) where
    pub loop_all : length xs ≤ i → Writes 𝓟 cs p q None
    loop_all l = subst (λ ds. Writes 𝓟 ds p q None) (ap (flat_map F) (take_all i xs l) ∙ sym whole) w

    -- one more
    module _ (x : X) (l : i < length xs) (at : get_or xs i x ≡ x) (r : P) where
      front : flat_map F (take (i + 1) xs) ≡ flat_map F (take i xs) ++ F x
      front =
          ap (flat_map F) (take_more xs i x l) ∙ joined_append F (take i xs) (get_or xs i x ∷ []) ∙
          ap (λ q. flat_map F (take i xs) ++ q) (append-nil (F (get_or xs i x)) ∙ ap F at)

      pub loop_more : Writes 𝓟 (F x) q r None → Writes 𝓟 (flat_map F (take (i + 1) xs)) p r None
      loop_more v = subst (λ ds. Writes 𝓟 ds p r None) (sym front) (writes_then (flat_map F (take i xs)) (F x) p q r None w v)

      -- a fault
      pub loop_exit : (f : PlaceFault) (e : Result Unit PlaceFault) → IsErrAnd e (λ y. y ≡ f) → Writes 𝓟 (F x) q r (Some f) → Writes 𝓟 cs p r (result_err e)
      loop_exit f e by v =
          let parts : (flat_map F (take i xs) ++ F x) ++ flat_map F (drop (i + 1) xs) ≡ cs =
          sym (whole ∙ joined_split F xs (i + 1) ∙ ap (λ q. q ++ flat_map F (drop (i + 1) xs)) front) in
          writes_exit cs p r f e by (subst (λ ds. Writes 𝓟 ds p r (Some f)) parts
          (writes_stops (flat_map F (take i xs) ++ F x) (flat_map F (drop (i + 1) xs)) p r f (writes_then (flat_map F (take i xs)) (F x) p q r (Some f) w v)))

-- Where the first clause that does not fit stands: in cs if writing cs meets a fault, and otherwise behind them.
module _ {P : Type 0} (𝓟 : Ghosts P) (cs ds : List (List ℤ)) (p q : P) where
  pub stops_within : (f : PlaceFault) → Writes 𝓟 cs p q (Some f) → fitting 𝓟.charge (𝓟.free p) (cs ++ ds) < length cs
  stops_within f w =
      let more = wrote_some 𝓟.charge cs (𝓟.held p) (𝓟.free p) (𝓟.held q) (𝓟.free q) f w in
      omega (arith, fitting_stops 𝓟.charge (𝓟.free p) cs ds more, fitting_lt 𝓟.charge (𝓟.free p) cs more)

  pub stops_behind : Writes 𝓟 cs p q None → length cs ≤ fitting 𝓟.charge (𝓟.free p) (cs ++ ds)
  stops_behind w =
      let all = wrote_all 𝓟.charge cs (𝓟.held p) (𝓟.free p) (𝓟.held q) (𝓟.free q) w in
      omega (arith, fitting_all 𝓟.charge (𝓟.free p) cs ds all.0)

-- What is left to write: the clauses cs were to come to p, and in q only ds are still to come.
abbrev pub Left : {P : Type 0} → Ghosts P → List (List ℤ) → P → List (List ℤ) → P → Type 0
Left {P = P} 𝓟 cs p ds q = (r : P) (o : Option PlaceFault) → Writes 𝓟 ds q r o → Writes 𝓟 cs p r o

module _ {P : Type 0} (𝓟 : Ghosts P) (cs : List (List ℤ)) (p : P) (ds : List (List ℤ)) (q : P) (left : Left 𝓟 cs p ds q) where
  pub left_all : ds ≡ [] → Writes 𝓟 cs p q None
  left_all e = left q None (subst (λ l. Writes 𝓟 l q q None) (sym e) (writes_none 𝓟 q))

  -- es come next, and then fs
  module _ (es fs : List (List ℤ)) (split : ds ≡ es ++ fs) (r : P) where
    pub left_more : Writes 𝓟 es q r None → Left 𝓟 cs p fs r
    left_more w s o v = left s o (subst (λ l. Writes 𝓟 l q s o) (sym split) (writes_then 𝓟 es fs q r s o w v))

    pub left_exit : (f : PlaceFault) → Writes 𝓟 es q r (Some f) → Writes 𝓟 cs p r (Some f)
    left_exit f w = left r (Some f) (subst (λ l. Writes 𝓟 l q r (Some f)) (sym split) (writes_stops 𝓟 es fs q r f w))
