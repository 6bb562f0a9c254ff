-- How the answer of writing a part is put together.
use Rattle.std.proofs.Common.{◌≡◌, ℕ, ◌<◌, ◌≤◌, true, false, List, [], ◌++◌, length, ℤ, IsErrAnd, Some, None, Ok, Err, Option, Result, sym, refl, ap, ◌∙◌, subst, arith}
use Rattle.std.specs.Option.{option_or}
use Rattle.places.specs.declared.fault.PlaceFault.{PlaceFault}
use Rattle.places.specs.declared.place.Place.{Ghosts}
use Rattle.places.specs.Written.{Writes, fitting}
use Rattle.places.proofs.Written.{stops_behind, stops_within, writes_none, writes_stops, writes_then}
use Rattle.totals.specs.Totaller.{Totaller}
use Rattle.totallers.specs.declared.fault.TotallerFault.{TotallerFault}
use Rattle.totallers.specs.Writing.{Totalled, TotalledBy, ready_fault, sum_clauses}
use Rattle.boards.specs.declared.board.Board.{Board}
use Rattle.parts.specs.declared.fault.KindFault.{KindFault}
use Rattle.parts.specs.declared.fault.KindFault.TheVariants as kind
use Rattle.parts.specs.Tests.{first_number_fault}
use Rattle.meanings.specs.Kind.{Kind}
use Rattle.meanings.specs.Sum.{by_totaller}
use Rattle.kinds.specs.Answers.{Written, WrittenBy, carried, part_clauses, write_fault}

err_same : (x y : TotallerFault) → ◌≡◌ {A = Result ℕ TotallerFault} (Err x) (Err y) → x ≡ y
err_same x y e = grind arith

ok_err : (k : ℕ) (y : TotallerFault) → ◌≡◌ {A = Result ℕ TotallerFault} (Ok k) (Err y) → ⊥
ok_err k y e = grind arith

module _ (𝓚 : Kind) (𝓣 : Totaller) {P : Type 0} (𝓟 : Ghosts P) (b : Board) (total : ℕ) (body : List ℕ) (f : ℕ) where
  abbrev index : P → ℕ
  index p = fitting 𝓟.charge (𝓟.free p) (part_clauses 𝓚 𝓣 b total body f)

  -- nothing is wrong with the part and the first fresh number
  pub write_fault_is : 𝓚.fault b total body ≡ None → first_number_fault b f ≡ None → write_fault 𝓚 𝓣 b total body f ≡ 𝓚.ready 𝓣 b total body f
  write_fault_is e d = ap (λ o. option_or o (option_or (first_number_fault b f) (𝓚.ready 𝓣 b total body f))) e ∙ ap (λ o. option_or o (𝓚.ready 𝓣 b total body f)) d

  refused : (p : P) (e : KindFault) (r : Result ℕ KindFault) → IsErrAnd r (λ y. y ≡ e) → write_fault 𝓚 𝓣 b total body f ≡ Some e → Written 𝓚 𝓣 𝓟 b total body f p p r
  refused p e (Ok k) by w = absurd by
  refused p e (Err y) by w = subst (λ o. WrittenBy o 𝓚 𝓣 𝓟 b total body f p p (Err y)) (sym w) (ap Err by, refl)

  stopped : (p q : P) (d : PlaceFault) (e : KindFault) (r : Result ℕ KindFault) → IsErrAnd r (λ y. y ≡ e) → write_fault 𝓚 𝓣 b total body f ≡ None →
      e ≡ carried (𝓚.summed 𝓣 b total body (index p)) d → Writes 𝓟 (part_clauses 𝓚 𝓣 b total body f) p q (Some d) → Written 𝓚 𝓣 𝓟 b total body f p q r
  stopped p q d e (Ok k) by none is w = absurd by
  stopped p q d e (Err y) by none is w = subst (λ o. WrittenBy o 𝓚 𝓣 𝓟 b total body f p q (Err y)) (sym none) (d, by ∙ is, w)

  -- a part that writes clauses of its own, and then a sum
  module _ (cs : List (List ℤ)) (vs ws : List ℕ) (t : ℕ) (whole : part_clauses 𝓚 𝓣 b total body f ≡ cs ++ sum_clauses 𝓣 vs ws t f)
      (ready : write_fault 𝓚 𝓣 b total body f ≡ by_totaller (ready_fault 𝓣 vs ws t f)) (p : P) where
    pub sum_refused : (e : TotallerFault) → ready_fault 𝓣 vs ws t f ≡ Some e → (r : Result ℕ KindFault) → IsErrAnd r (λ y. y ≡ kind.Totaller e) → Written 𝓚 𝓣 𝓟 b total body f p p r
    sum_refused e h r by = refused p (kind.Totaller e) r by (ready ∙ ap by_totaller h)

    module _ (none : ready_fault 𝓣 vs ws t f ≡ None) where
      nothing : write_fault 𝓚 𝓣 b total body f ≡ None
      nothing = ready ∙ ap by_totaller none

      pub own_stopped : ((i : ℕ) → i < length cs → 𝓚.summed 𝓣 b total body i ≡ false) → (q : P) (d : PlaceFault) → Writes 𝓟 cs p q (Some d) →
          (r : Result ℕ KindFault) → IsErrAnd r (λ y. y ≡ kind.Place d) → Written 𝓚 𝓣 𝓟 b total body f p q r
      own_stopped own q d w r by =
          let within : index p < length cs = subst (λ l. fitting 𝓟.charge (𝓟.free p) l < length cs) (sym whole) (stops_within 𝓟 cs (sum_clauses 𝓣 vs ws t f) p q d w) in
          stopped p q d (kind.Place d) r by nothing (ap (λ x. carried x d) (sym (own (index p) within)))
          (subst (λ l. Writes 𝓟 l p q (Some d)) (sym whole) (writes_stops 𝓟 cs (sum_clauses 𝓣 vs ws t f) p q d w))

      module _ (q : P) (w : Writes 𝓟 cs p q None) (s : P) where
        pub sum_stopped : ((i : ℕ) → length cs ≤ i → 𝓚.summed 𝓣 b total body i ≡ true) → (e : TotallerFault) → Totalled 𝓣 𝓟 vs ws t f q s (Err e) →
            (r : Result ℕ KindFault) → IsErrAnd r (λ y. y ≡ kind.Totaller e) → Written 𝓚 𝓣 𝓟 b total body f p s r
        sum_stopped sum e v r by =
            let (d, is, u) = subst (λ o. TotalledBy o 𝓣 𝓟 vs ws t f q s (Err e)) none v in
            let behind : length cs ≤ index p = subst (λ l. length cs ≤ fitting 𝓟.charge (𝓟.free p) l) (sym whole) (stops_behind 𝓟 cs (sum_clauses 𝓣 vs ws t f) p q w) in
            stopped p s d (kind.Totaller e) r by nothing (ap kind.Totaller is ∙ ap (λ x. carried x d) (sym (sum (index p) behind)))
            (subst (λ l. Writes 𝓟 l p s (Some d)) (sym whole) (writes_then 𝓟 cs (sum_clauses 𝓣 vs ws t f) p q s (Some d) w u))

        pub sum_done : 𝓣.fresh_count ws t ≡ 𝓚.fresh_count 𝓣 b total body → (k : ℕ) → Totalled 𝓣 𝓟 vs ws t f q s (Ok k) → Written 𝓚 𝓣 𝓟 b total body f p s (Ok k)
        sum_done count k v =
            let (is, u) = subst (λ o. TotalledBy o 𝓣 𝓟 vs ws t f q s (Ok k)) none v in
            subst (λ o. WrittenBy o 𝓚 𝓣 𝓟 b total body f p s (Ok k)) (sym nothing)
            (is ∙ count, subst (λ l. Writes 𝓟 l p s None) (sym whole) (writes_then 𝓟 cs (sum_clauses 𝓣 vs ws t f) p q s None w u))

  -- a part that writes a sum alone
  module _ (vs ws : List ℕ) (t : ℕ) (whole : part_clauses 𝓚 𝓣 b total body f ≡ sum_clauses 𝓣 vs ws t f)
      (ready : write_fault 𝓚 𝓣 b total body f ≡ by_totaller (ready_fault 𝓣 vs ws t f)) (p s : P) where
    pub alone_ended : ((i : ℕ) → 0 ≤ i → 𝓚.summed 𝓣 b total body i ≡ true) → (e : TotallerFault) → Totalled 𝓣 𝓟 vs ws t f p s (Err e) →
        (r : Result ℕ KindFault) → IsErrAnd r (λ y. y ≡ kind.Totaller e) → Written 𝓚 𝓣 𝓟 b total body f p s r
    alone_ended sum e v r by = go (ready_fault 𝓣 vs ws t f) refl v
      where
        go : (o : Option TotallerFault) → ready_fault 𝓣 vs ws t f ≡ o → TotalledBy o 𝓣 𝓟 vs ws t f p s (Err e) → Written 𝓚 𝓣 𝓟 b total body f p s r
        go (Some x) h u =
            let same : e ≡ x = err_same e x u.0 in
            subst (λ q. Written 𝓚 𝓣 𝓟 b total body f p q r) (sym u.1) (sum_refused [] vs ws t whole ready p e (h ∙ ap Some (sym same)) r by)
        go None h u = sum_stopped [] vs ws t whole ready p h p (writes_none 𝓟 p) s sum e v r by

    pub alone_done : 𝓣.fresh_count ws t ≡ 𝓚.fresh_count 𝓣 b total body → (k : ℕ) → Totalled 𝓣 𝓟 vs ws t f p s (Ok k) → Written 𝓚 𝓣 𝓟 b total body f p s (Ok k)
    alone_done count k v = go (ready_fault 𝓣 vs ws t f) refl v
      where
        go : (o : Option TotallerFault) → ready_fault 𝓣 vs ws t f ≡ o → TotalledBy o 𝓣 𝓟 vs ws t f p s (Ok k) → Written 𝓚 𝓣 𝓟 b total body f p s (Ok k)
        go (Some x) h u = absurd (ok_err k x u.0)
        go None h u = sum_done [] vs ws t whole ready p h p (writes_none 𝓟 p) s count k v
