-- What a totaller's answer means for a text.
use Rattle.std.proofs.Common.{◌≡◌, ℕ, ◌+◌, ◌≤◌, Bool, true, false, cond, leb, List, [], ◌++◌, length, IsErrAnd, Some, None, Ok, Err, vec_items, sum_by, Option, Result, Vec, sym, refl, ap, ◌∙◌, subst, arith}
use Rattle.std.specs.Option.{option_map, option_or}
use Rattle.std.specs.Result.{MatchResult}
use Rattle.std.specs.declared.alloc.Global.{Global}
use Rattle.std.proofs.lemmas.Bool.{cond-true, le-leb}
use Rattle.spelling.specs.Text.{text_charge}
use Rattle.places.specs.declared.fault.PlaceFault.TheVariants.{NoSpace}
use Rattle.places.specs.declared.place.Place.{Ghosts}
use Rattle.places.specs.Written.{fitting}
use Rattle.places.proofs.Written.{wrote_all}
use Rattle.text_place.specs.Meaning.{TextPlace, free_text, held_text}
use Rattle.clause_text.specs.declared.fault.WriteFault.{WriteFault}
use Rattle.clause_text.specs.declared.fault.WriteFault.TheVariants as writing
use Rattle.clause_text.proofs.Faults.{was_err, was_ok}
use Rattle.totals.specs.Totaller.{Totaller}
use Rattle.totallers.specs.declared.fault.TotallerFault.{TotallerFault}
use Rattle.totallers.specs.declared.fault.TotallerFault.TheVariants.{Place}
use Rattle.totallers.specs.Writing.{Totalled, TotalledBy, ready_fault}
use Rattle.totallers.proofs.Faultless.{faultless}
use Rattle.sum_text.specs.declared.sum.OwnedSum.{OwnedSum}
use Rattle.sum_text.specs.Writing.{Written, clauses, room_fault, sum_fault}

-- what a place of text means
abbrev text : Ghosts TextPlace
text = record { held = held_text; free = free_text; charge = text_charge }

-- a sum was written to a place, which is then q
pub record Success (𝓣 : Totaller) (s : OwnedSum) (room : ℕ) (q : TextPlace) (fresh : ℕ) : Type 0 where
  pub counted : fresh ≡ 𝓣.fresh_count (vec_items s.weights) s.target
  pub fault : sum_fault 𝓣 s room ≡ None
  pub holds : held_text q ≡ clauses 𝓣 s
  pub positive : 1 ≤ s.first

-- A sum's items are handed to a totaller as vs and ws, with an empty place p, which is then q.
module _ (𝓣 : Totaller) (s : OwnedSum) (vs ws : List ℕ) (p q : TextPlace) (room : ℕ)
    (same_variables : vs ≡ vec_items s.variables) (same_weights : ws ≡ vec_items s.weights) (empty : held_text p ≡ []) (all_free : free_text p ≡ room) where
  abbrev ready : Option TotallerFault
  ready = ready_fault 𝓣 (vec_items s.variables) (vec_items s.weights) s.target s.first

  of_sum : (r : Result ℕ TotallerFault) → Totalled 𝓣 text vs ws s.target s.first p q r →
      TotalledBy ready 𝓣 text (vec_items s.variables) (vec_items s.weights) s.target s.first p q r
  of_sum r h =
      let at : List ℕ → Type 0 = λ l. Totalled 𝓣 text l ws s.target s.first p q r in
      let at_both : List ℕ → Type 0 = λ l. Totalled 𝓣 text (vec_items s.variables) l s.target s.first p q r in
      subst at_both same_weights (subst at same_variables h)

  -- What the totaller answers is r, and `map_err` makes it a fault of writing.
  pub success : (r : Result ℕ TotallerFault) → Totalled 𝓣 text vs ws s.target s.first p q r → (fresh : ℕ) → {Q : TotallerFault → Type 0} (never : (e : TotallerFault) → Q e → ⊥) →
      MatchResult r (λ x. ◌≡◌ {A = Result ℕ (WriteFault TotallerFault)} (Ok fresh) (Ok x)) Q → Success 𝓣 s room q fresh
  success r h fresh never k =
      let at : Result ℕ TotallerFault → Type 0 = λ o. Totalled 𝓣 text vs ws s.target s.first p q o in
      go ready refl (of_sum (Ok fresh) (subst at (was_ok _ never r fresh k) h))
    where
      go : (o : Option TotallerFault) → ready ≡ o →
          TotalledBy o 𝓣 text (vec_items s.variables) (vec_items s.weights) s.target s.first p q (Ok fresh) → Success 𝓣 s room q fresh
      go (Some e) is t = let no = t.0 in absurd (grind arith)
      go None is t =
          let cs = clauses 𝓣 s in
          let all = wrote_all text_charge cs (held_text p) (free_text p) (held_text q) (free_text q) t.1 in
          let good = faultless 𝓣 (vec_items s.variables) (vec_items s.weights) s.target s.first is in
          let item = good.items 0 (omega (arith, good.some)) in
          record {
            counted = t.0;
            fault = ap (λ o. option_or o (room_fault cs room)) is ∙ cond-true (leb (sum_by text_charge cs) room) _ _ (le-leb (sum_by text_charge cs) room (omega (arith, all.0)));
            holds = all.1 ∙ ap (λ l. l ++ cs) empty;
            positive = omega (arith, item.2);
          }

  failure : (e : TotallerFault) → Totalled 𝓣 text vs ws s.target s.first p q (Err e) → sum_fault 𝓣 s room ≡ Some e
  failure e h = go ready refl (of_sum (Err e) h)
    where
      inside : (b : Bool) (k n : ℕ) → k ≡ n → option_map (λ f. Place f) (cond b None (Some (NoSpace k))) ≡ cond b None (Some (Place (NoSpace n)))
      inside true k n i = refl
      inside false k n i = ap (λ m. Some (Place (NoSpace m))) i

      go : (o : Option TotallerFault) → ready ≡ o →
          TotalledBy o 𝓣 text (vec_items s.variables) (vec_items s.weights) s.target s.first p q (Err e) → sum_fault 𝓣 s room ≡ Some e
      go (Some d) is t = let same = t.0 in ap (λ o. option_or o (room_fault (clauses 𝓣 s) room)) is ∙ grind arith
      go None is t =
          let cs = clauses 𝓣 s in
          let n : length (held_text p) + fitting text_charge (free_text p) cs ≡ fitting text_charge (free_text p) cs = omega (arith, ap length empty) in
          ap (λ o. option_or o (room_fault cs room)) is ∙ ap (room_fault cs) (sym all_free) ∙
          sym (ap (option_map (λ f. Place f)) t.2.ended ∙ inside (leb (sum_by text_charge cs) (free_text p)) _ _ n) ∙ ap Some (sym t.1)

  pub failed : (r : Result ℕ TotallerFault) → Totalled 𝓣 text vs ws s.target s.first p q r → (f : WriteFault TotallerFault) → {Q : TotallerFault → Type 0}
      (told : (e : TotallerFault) → Q e → f ≡ writing.Refused e) → MatchResult r (λ x. ◌≡◌ {A = Result ℕ (WriteFault TotallerFault)} (Err f) (Ok x)) Q →
      (w : Result (Vec ℕ Global) (WriteFault TotallerFault)) → IsErrAnd w (λ y. y ≡ f) → Written 𝓣 s room w
  failed r h f told k (Ok v) by = absurd by
  failed r h f told k (Err y) by =
      let (e, is, made) = was_err writing.Refused f told r k in
      let at : Result ℕ TotallerFault → Type 0 = λ o. Totalled 𝓣 text vs ws s.target s.first p q o in
      let P : WriteFault TotallerFault → Type 0 = λ x. Written 𝓣 s room (Err x) in
      subst P (sym (by ∙ made)) (failure e (subst at is h))
