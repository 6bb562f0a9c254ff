-- The clause text of a draft, put together.
use Rattle.std.proofs.Common.{◌≡◌, ℕ, ◌^◌, ◌<◌, ◌++◌, List, length, take, drop, replicate, true, if◌then◌else◌, Some, Ok, Err, Result, is_ok, Vec, refl, sym, ap, ◌∙◌, subst, [], arith}
use Rattle.std.specs.Result.{IsErrAnd, MatchResult, result_ok}
use Rattle.std.specs.declared.alloc.Global.{Global}
use Rattle.std.proofs.lemmas.List.{take_at}
use Rattle.spelling.specs.Text.{heading, text_charge}
use Rattle.places.specs.declared.place.Place.{Ghosts}
use Rattle.text_place.specs.Meaning.{TextPlace, free_text, held_text}
use Rattle.clause_text.specs.declared.fault.WriteFault.{WriteFault}
use Rattle.clause_text.specs.declared.fault.WriteFault.TheVariants as writing
use Rattle.clause_text.proofs.Headings.{chosen}
use Rattle.draft.specs.declared.fault.DraftFault.{DraftFault}
use Rattle.boards.specs.Board.{board_of}
use Rattle.boards.specs.Atoms.{cell_variables}
use Rattle.draft.specs.declared.state.Draft.{Draft}
use Rattle.boards.specs.Base.{base_clauses}
use Rattle.draft.specs.Opening.{Opened, open_fault_on}
use Rattle.draft.specs.Heading.{heading_length}
use Rattle.desk.specs.declared.fault.EncodeFault.{EncodeFault}
use Rattle.desk.specs.declared.statement.SideLine.{SideLine}
use Rattle.desk.specs.DraftText.{read}
use Rattle.desk.specs.Encoding.{Encoded, Written, fault_at_line}

-- what a place of text means
abbrev text : Ghosts TextPlace
text = record { held = held_text; free = free_text; charge = text_charge }

-- what `map_err` leaves as it was, of the opening of a draft
pub opened_as : (G : Type 0) {Q : DraftFault → Type 0} (never : (e : DraftFault) → Q e → ⊥) (side : ℕ) (p q : TextPlace) (r : Result Draft DraftFault) (d : Draft) →
    MatchResult r (λ x. ◌≡◌ {A = Result Draft G} (Ok d) (Ok x)) Q → Opened text side p q r →
    (board_of side ≡ Some d.board) × (d.variables ≡ cell_variables d.board) × (held_text q ≡ base_clauses d.board)
opened_as G never side p q (Err x) d k o = absurd (never x k)
opened_as G never side p q (Ok x) d k o =
    let same : x ≡ d = grind arith in
    let P : Draft → Type 0 = λ y. (board_of side ≡ Some y.board) × (y.variables ≡ cell_variables y.board) × (held_text q ≡ base_clauses y.board) in
    subst P same (o.0, o.1, o.2)

-- A heading in a buffer of 48 bytes.
module _ (v c : ℕ) (small : v < 2 ^ 32) (few : c < 2 ^ 64) (r : Result ℕ DraftFault) (value : result_ok r ≡ heading_length (heading v c) (replicate 48 0)) where
  length_is : result_ok r ≡ Some (length (heading v c))
  length_is = value ∙ chosen v c small few (replicate 48 0) refl _ _

  pub is_there : is_ok r ≡ true
  is_there = go r length_is
    where
      go : (r : Result ℕ DraftFault) → result_ok r ≡ Some (length (heading v c)) → is_ok r ≡ true
      go (Ok m) e = refl
      go (Err x) e = absurd (grind arith)

  pub headed : (len : ℕ) (buffer : List ℕ) → r ≡ Ok len →
      buffer ≡ (if is_ok r then heading v c ++ drop (length (heading v c)) (replicate 48 0) else replicate 48 0) → take len buffer ≡ heading v c
  headed len buffer is after =
      let h = heading v c in
      let rest = drop (length h) (replicate 48 0) in
      let both : Some len ≡ Some (length h) = sym (ap result_ok is) ∙ length_is in
      let same : len ≡ length h = grind arith in
      let there : buffer ≡ h ++ rest = after ∙ ap (λ b. if b then h ++ rest else replicate 48 0) is_there in
      ap (take len) there ∙ ap (λ n. take n (h ++ rest)) same ∙ take_at h rest (length h) refl

-- what is written, or why it is not, for the text that says the side s
pub encoded : {Q : WriteFault DraftFault → EncodeFault → Type 0} (bytes : List ℕ) (s : SideLine) → read bytes ≡ Ok s → (room : ℕ) → room ≡ 1048576 →
    (w : Result (Vec ℕ Global) (WriteFault DraftFault)) (r : Result (Vec ℕ Global) EncodeFault) → Written s.side room w →
    MatchResult w (λ x. r ≡ Ok x) (λ e. IsErrAnd r (Q e)) → ((e : WriteFault DraftFault) (x : EncodeFault) → Q e x → x ≡ fault_at_line s.line e) → Encoded bytes r
encoded bytes s is room all (Ok x) r (b, found, text) same at = let P : Result (Vec ℕ Global) EncodeFault → Type 0 = Encoded bytes in subst P (sym same) (s, b, is, found, text)
encoded bytes s is room all (Err e) (Ok x) h never at = absurd never
encoded bytes s is room all (Err (writing.Refused f)) (Err x) h k at =
    let P : EncodeFault → Type 0 = λ y. Encoded bytes (Err y) in
    subst P (sym (at (writing.Refused f) x k)) (s, is, refl, h ∙ ap (open_fault_on text_charge (board_of s.side) []) all)
encoded bytes s is room all (Err writing.Memory) (Err x) h k at =
    let P : EncodeFault → Type 0 = λ y. Encoded bytes (Err y) in
    subst P (sym (at writing.Memory x k)) tt
