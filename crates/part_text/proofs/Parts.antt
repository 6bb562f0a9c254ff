-- What the place's and the kind's answers mean for a text.
use Rattle.std.proofs.Common.{◌≡◌, ℕ, ◌+◌, ◌-◌, ◌^◌, ◌<◌, ◌≤◌, Bool, true, false, cond, leb, List, [], ◌++◌, length, IsErrAnd, Some, None, Ok, Err, sum_by, Option, Result, Vec, sym, refl, ap, ◌∙◌, subst, inl, inr, arith}
use Rattle.std.specs.Option.{option_or}
use Rattle.std.specs.Result.{MatchResult, result_err}
use Rattle.std.specs.declared.alloc.Global.{Global}
use Rattle.std.proofs.lemmas.Bool.{cases_Bool, cond-true, le-leb, leb-true, leb-false}
use Rattle.spelling.specs.Text.{text_charge}
use Rattle.places.specs.declared.fault.PlaceFault.{PlaceFault}
use Rattle.places.specs.declared.fault.PlaceFault.TheVariants.{NoSpace}
use Rattle.places.specs.declared.place.Place.{Ghosts}
use Rattle.places.specs.Written.{Writes, fitting}
use Rattle.places.proofs.Written.{wrote_all}
use Rattle.text_place.specs.Meaning.{TextPlace, free_text, held_text}
use Rattle.clause_text.specs.declared.fault.WriteFault.{WriteFault}
use Rattle.clause_text.specs.declared.fault.WriteFault.TheVariants as writing
use Rattle.clause_text.proofs.Faults.{was_err, was_ok}
use Rattle.totals.specs.Totaller.{Totaller}
use Rattle.boards.specs.declared.board.Board.{Board}
use Rattle.parts.specs.declared.fault.KindFault.{KindFault}
use Rattle.parts.specs.Tests.{first_number_fault}
use Rattle.meanings.specs.Kind.{Kind, Lawful}
use Rattle.kinds.specs.Answers as kinds
use Rattle.kinds.specs.Answers.{WrittenBy, carried, write_fault}
use Rattle.part_text.specs.declared.fault.PartFault.{PartFault}
use Rattle.part_text.specs.declared.fault.PartFault.TheVariants as part
use Rattle.boards.specs.Base.{base_clauses}
use Rattle.part_text.specs.Writing.{WrittenOn, base_fault, first_fresh, own_clauses, part_fault, room_fault}

-- what a place of text means
abbrev text : Ghosts TextPlace
text = record { held = held_text; free = free_text; charge = text_charge }

-- the clauses of the empty board are put where `map_err` hands on no fault
pub base_written : (b : Board) (p q : TextPlace) (r : Result (Unit {0}) PlaceFault) → Writes text (base_clauses b) p q (result_err r) → (u : Unit {0}) →
    {Q : PlaceFault → Type 0} (never : (e : PlaceFault) → Q e → ⊥) → MatchResult r (λ x. ◌≡◌ {A = Result (Unit {0}) (WriteFault PartFault)} (Ok u) (Ok x)) Q → Writes text (base_clauses b) p q None
base_written b p q r w u never k = let at : Result (Unit {0}) PlaceFault → Type 0 = λ o. Writes text (base_clauses b) p q (result_err o) in subst at (was_ok _ never r u k) w

-- The clauses of the empty board are put to an empty place p, which is then q.
module _ (b : Board) (p q : TextPlace) (room : ℕ) (empty : held_text p ≡ []) (all_free : free_text p ≡ room) where
  module _ (w : Writes text (base_clauses b) p q None) where
    pub base_fits : base_fault b room ≡ None
    base_fits =
        let cs = base_clauses b in
        let all = wrote_all text_charge cs (held_text p) (free_text p) (held_text q) (free_text q) w in
        cond-true (leb (sum_by text_charge cs) room) _ _ (le-leb (sum_by text_charge cs) room (omega (arith, all.0)))

    base_holds : held_text q ≡ base_clauses b
    base_holds = (wrote_all text_charge (base_clauses b) (held_text p) (free_text p) (held_text q) (free_text q) w).1 ∙ ap (λ l. l ++ base_clauses b) empty

    base_left : free_text q ≡ room - sum_by text_charge (base_clauses b)
    base_left = omega (arith, (wrote_all text_charge (base_clauses b) (held_text p) (free_text p) (held_text q) (free_text q) w).2)

-- a part was written to a place, which is then s
pub record Success (𝓚 : Kind) (𝓣 : Totaller) (b : Board) (total : ℕ) (body : List ℕ) (room : ℕ) (s : TextPlace) (fresh : ℕ) : Type 0 where
  pub counted : fresh ≡ 𝓚.fresh_count 𝓣 b total body
  pub fault : part_fault 𝓚 𝓣 b total body room ≡ None
  pub holds : held_text s ≡ base_clauses b ++ own_clauses 𝓚 𝓣 b total body
  pub few : 1 ≤ fresh → first_fresh b + fresh ≤ 65536

-- Then the part is written, with the first fresh number f, to q, which is then s.
module _ (𝓚 : Kind) (𝓣 : Totaller) (lawful : Lawful 𝓚) (b : Board) (total : ℕ) (body : List ℕ) (p q s : TextPlace) (room f : ℕ)
    (empty : held_text p ≡ []) (all_free : free_text p ≡ room) (w : Writes text (base_clauses b) p q None) (same_first : f ≡ first_fresh b) where
  abbrev before : Option KindFault
  before = write_fault 𝓚 𝓣 b total body (first_fresh b)

  at_first : (r : Result ℕ KindFault) → kinds.Written 𝓚 𝓣 text b total body f q s r → WrittenBy before 𝓚 𝓣 text b total body (first_fresh b) q s r
  at_first r h =
      let at : ℕ → Type 0 = λ n. kinds.Written 𝓚 𝓣 text b total body n q s r in
      subst at same_first h

  -- nothing is wrong, the kind says
  ready_none : (x y z : Option KindFault) → option_or x (option_or y z) ≡ None → z ≡ None
  ready_none None None z e = e
  ready_none None (Some k) z e = absurd (grind arith)
  ready_none (Some k) y z e = absurd (grind arith)

  -- What the kind answers is r, and `map_err` makes it a fault of writing.
  pub success : (r : Result ℕ KindFault) → kinds.Written 𝓚 𝓣 text b total body f q s r → (fresh : ℕ) → {Q : KindFault → Type 0} (never : (e : KindFault) → Q e → ⊥) →
      MatchResult r (λ x. ◌≡◌ {A = Result ℕ (WriteFault PartFault)} (Ok fresh) (Ok x)) Q → Success 𝓚 𝓣 b total body room s fresh
  success r h fresh never k =
      let at : Result ℕ KindFault → Type 0 = λ o. kinds.Written 𝓚 𝓣 text b total body f q s o in
      go before refl (at_first (Ok fresh) (subst at (was_ok _ never r fresh k) h))
    where
      go : (o : Option KindFault) → before ≡ o → WrittenBy o 𝓚 𝓣 text b total body (first_fresh b) q s (Ok fresh) → Success 𝓚 𝓣 b total body room s fresh
      go (Some e) is t = let no = t.0 in absurd (grind arith)
      go None is t =
          let cs = own_clauses 𝓚 𝓣 b total body in
          let all = wrote_all text_charge cs (held_text q) (free_text q) (held_text s) (free_text s) t.1 in
          let left = base_left b p q room empty all_free w in
          let ready = ready_none (𝓚.fault b total body) (first_number_fault b (first_fresh b)) (𝓚.ready 𝓣 b total body (first_fresh b)) is in
          record {
            counted = t.0;
            fault =
                ap (λ o. option_or o (room_fault 𝓚 𝓣 b total body cs (room - sum_by text_charge (base_clauses b)))) is ∙
                cond-true (leb (sum_by text_charge cs) (room - sum_by text_charge (base_clauses b))) _ _
                (le-leb (sum_by text_charge cs) (room - sum_by text_charge (base_clauses b)) (omega (arith, all.0, left)));
            holds = all.1 ∙ ap (λ l. l ++ cs) (base_holds b p q room empty all_free w);
            few = λ one. let count = t.0 in let most = lawful.fits 𝓣 b total body (first_fresh b) ready (omega arith) in omega arith;
          }

  failure : (e : KindFault) → kinds.Written 𝓚 𝓣 text b total body f q s (Err e) → part_fault 𝓚 𝓣 b total body room ≡ Some e
  failure e h = go before refl (at_first (Err e) h)
    where
      inside : (fits summed : Bool) (k : ℕ) (d : PlaceFault) → Some d ≡ cond fits None (Some (NoSpace k)) → e ≡ carried summed d →
          cond fits None (Some (carried summed (NoSpace k))) ≡ Some e
      inside true summed k d ended is = absurd (grind arith)
      inside false summed k d ended is = let same : d ≡ NoSpace k = grind arith in ap Some (ap (carried summed) (sym same) ∙ sym is)

      go : (o : Option KindFault) → before ≡ o → WrittenBy o 𝓚 𝓣 text b total body (first_fresh b) q s (Err e) → part_fault 𝓚 𝓣 b total body room ≡ Some e
      go (Some d) is t =
          let same = t.0 in
          ap (λ o. option_or o (room_fault 𝓚 𝓣 b total body (own_clauses 𝓚 𝓣 b total body) (room - sum_by text_charge (base_clauses b)))) is ∙ grind arith
      go None is t =
          let cs = own_clauses 𝓚 𝓣 b total body in
          let k = fitting text_charge (free_text q) cs in
          let held = ap length (base_holds b p q room empty all_free w) in
          ap (λ o. option_or o (room_fault 𝓚 𝓣 b total body cs (room - sum_by text_charge (base_clauses b)))) is ∙
          ap (room_fault 𝓚 𝓣 b total body cs) (sym (base_left b p q room empty all_free w)) ∙
          inside (leb (sum_by text_charge cs) (free_text q)) (𝓚.summed 𝓣 b total body k) (length (base_clauses b) + k) t.0
          (t.2.ended ∙ ap (λ n. cond (leb (sum_by text_charge cs) (free_text q)) None (Some (NoSpace (n + k)))) held) t.1

  pub failed : (r : Result ℕ KindFault) → kinds.Written 𝓚 𝓣 text b total body f q s r → (g : WriteFault PartFault) → {Q : KindFault → Type 0}
      (told : (e : KindFault) → Q e → g ≡ writing.Refused (part.Kind e)) → MatchResult r (λ x. ◌≡◌ {A = Result ℕ (WriteFault PartFault)} (Err g) (Ok x)) Q →
      (v : Result (Vec ℕ Global) (WriteFault PartFault)) → IsErrAnd v (λ y. y ≡ g) → WrittenOn 𝓚 𝓣 b total body room v
  failed r h g told k (Ok v) by = absurd by
  failed r h g told k (Err y) by =
      let (e, is, made) = was_err (λ e. writing.Refused (part.Kind e)) g told r k in
      let at : Result ℕ KindFault → Type 0 = λ o. kinds.Written 𝓚 𝓣 text b total body f q s o in
      let P : WriteFault PartFault → Type 0 = λ x. WrittenOn 𝓚 𝓣 b total body room (Err x) in
      subst P (sym (by ∙ made)) (base_fits b p q room empty all_free w, failure e (subst at is h))

-- the variables of the cells and the fresh ones are few
pub few_variables : (n fresh : ℕ) → n ≤ 4096 → (1 ≤ fresh → n + 1 + fresh ≤ 65536) → n + fresh < 2 ^ 32
few_variables n fresh l few =
    elim (cases_Bool (leb 1 fresh)) [
      | inl e ↦ omega (arith, few (leb-true 1 fresh e))
      | inr e ↦ omega (arith, leb-false 1 fresh e)
    ]
