-- What comes of opening a draft, by how far it got.
use Rattle.std.proofs.Common.{◌≡◌, ℕ, ◌+◌, ◌<◌, Bool, true, false, cond, eqb, leb, ◌++◌, length, take, drop, Some, None, sum_by, Option, sym, refl, ap, ◌∙◌, arith}
use Rattle.std.specs.Option.{option_map}
use Rattle.std.proofs.lemmas.List.{nil_from_length}
use Rattle.std.proofs.lemmas.Bool.{cond-true, cond-false, eq-eqb, ne_eqb}
use Rattle.places.specs.declared.fault.PlaceFault.{PlaceFault}
use Rattle.places.specs.declared.fault.PlaceFault.TheVariants.{NoSpace}
use Rattle.places.specs.declared.place.Place.{Ghosts}
use Rattle.places.specs.Fault.{by_place}
use Rattle.places.specs.Written.{fitting, Writes}
use Rattle.places.proofs.Written.{wrote_all}
use Rattle.boards.specs.declared.board.Board.{Board}
use Rattle.boards.specs.Board.{board_of}
use Rattle.draft.specs.declared.fault.DraftFault.{DraftFault}
use Rattle.draft.specs.declared.fault.DraftFault.TheVariants.{NotEmpty, Place}
use Rattle.draft.specs.Fault.{by_draft, refusal}
use Rattle.boards.specs.Base.{base_clauses}
use Rattle.draft.specs.Opening.{open_fault, open_fault_on, open_refusal, open_refusal_on}

module _ {P : Type 0} (𝓟 : Ghosts P) (side : ℕ) (p : P) where
  -- a fault as it is reported
  pub reported : (o : Option DraftFault) → o ≡ open_fault 𝓟 side p → option_map refusal o ≡ open_refusal 𝓟 side p
  reported o e = ap (option_map refusal) e ∙ on (board_of side)
    where
      go : (a b : Bool) (n : ℕ) →
          option_map refusal (cond a (cond b None (Some (Place (NoSpace n)))) (Some NotEmpty)) ≡ cond a (cond b None (Some (by_place 25 n))) (Some (by_draft 21))
      go true true n = refl
      go true false n = refl
      go false b n = refl

      on : (o : Option Board) → option_map refusal (open_fault_on 𝓟.charge o (𝓟.held p) (𝓟.free p)) ≡ open_refusal_on 𝓟.charge o (𝓟.held p) (𝓟.free p)
      on None = refl
      on (Some b) =
          go (eqb (length (𝓟.held p)) 0) (leb (sum_by 𝓟.charge (base_clauses b)) (𝓟.free p)) (fitting 𝓟.charge (𝓟.free p) (base_clauses b))

  module _ (b : Board) (found : board_of side ≡ Some b) where
    at_board : open_fault 𝓟 side p ≡ open_fault_on 𝓟.charge (Some b) (𝓟.held p) (𝓟.free p)
    at_board = ap (λ o. open_fault_on 𝓟.charge o (𝓟.held p) (𝓟.free p)) found

    pub not_empty : 0 < length (𝓟.held p) → Some NotEmpty ≡ open_fault 𝓟 side p
    not_empty l = sym (at_board ∙ cond-false (eqb (length (𝓟.held p)) 0) _ _ (ne_eqb (length (𝓟.held p)) 0 (λ e. omega arith)))

    module _ (empty : length (𝓟.held p) ≡ 0) (q : P) where
      -- the place's fault inside the draft's
      pub inside : (o : Option PlaceFault) → Writes 𝓟 (base_clauses b) p q o → option_map (λ f. Place f) o ≡ open_fault 𝓟 side p
      inside o w =
          let n : length (𝓟.held p) + fitting 𝓟.charge (𝓟.free p) (base_clauses b) ≡ fitting 𝓟.charge (𝓟.free p) (base_clauses b) = omega arith in
          ap (option_map (λ f. Place f)) w.ended ∙ go (leb (sum_by 𝓟.charge (base_clauses b)) (𝓟.free p)) _ _ n ∙
          sym (at_board ∙ cond-true (eqb (length (𝓟.held p)) 0) _ _ (eq-eqb (length (𝓟.held p)) 0 empty))
        where
          go : (a : Bool) (k n : ℕ) → k ≡ n → option_map (λ f. Place f) (cond a None (Some (NoSpace k))) ≡ cond a None (Some (Place (NoSpace n)))
          go true k n e = refl
          go false k n e = ap (λ m. Some (Place (NoSpace m))) e

      -- the new place
      pub new : Writes 𝓟 (base_clauses b) p q None → (𝓟.held q ≡ base_clauses b) × (𝓟.free q + sum_by 𝓟.charge (base_clauses b) ≡ 𝓟.free p)
      new w =
          let (fits, holds, room) = wrote_all 𝓟.charge (base_clauses b) (𝓟.held p) (𝓟.free p) (𝓟.held q) (𝓟.free q) w in
          (holds ∙ ap (λ l. l ++ base_clauses b) (nil_from_length (𝓟.held p) empty), room)

      -- after a fault all is cut: r is as p was
      pub undone : (o : Option PlaceFault) → Writes 𝓟 (base_clauses b) p q o → (r : P) → 𝓟.held r ≡ take 0 (𝓟.held q) →
          𝓟.free r ≡ 𝓟.free q + sum_by 𝓟.charge (drop 0 (𝓟.held q)) → (𝓟.held r ≡ 𝓟.held p) × (𝓟.free r ≡ 𝓟.free p)
      undone o w r holds room =
          let none = nil_from_length (𝓟.held p) empty in
          let all : 𝓟.held q ≡ take (fitting 𝓟.charge (𝓟.free p) (base_clauses b)) (base_clauses b) = w.holds ∙ ap (λ l. l ++ take (fitting 𝓟.charge (𝓟.free p) (base_clauses b)) (base_clauses b)) none in
          (holds ∙ sym none, room ∙ ap (λ l. 𝓟.free q + sum_by 𝓟.charge l) all ∙ w.room)
