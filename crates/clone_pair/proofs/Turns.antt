-- The clauses of a pair of clones, one in each turn of a loop.
use Rattle.std.proofs.Common.{◌≡◌, ℕ, ◌+◌, ◌-◌, ◌*◌, ◌≤◌, cond, List, [], ◌∷◌, ◌++◌, ℤ, pos, neg_ℤ, is_ok, Result, ap, ◌∙◌, ap₂, arith}
use Rattle.std.specs.List.{range_with_len, flat_map}
use Rattle.std.specs.Result.{result_err}
use Rattle.formulas.proofs.Numbered.{numbered_map}
use Rattle.formulas.proofs.Valid.{usable_is, usable_not, valid_two}
use Rattle.places.specs.declared.fault.PlaceFault.{PlaceFault}
use Rattle.places.specs.declared.place.Place.{Ghosts}
use Rattle.places.specs.Put.{put_fault}
use Rattle.places.specs.Written.{Writes}
use Rattle.places.proofs.Written.{writes_put}
use Rattle.places.proofs.Loops.{all_up_to, up_to}
use Rattle.boards.specs.declared.board.Board.{Board}
use Rattle.boards.specs.Board.{side}
use Rattle.boards.specs.Atoms.{number}
use Rattle.kinds.specs.Answers.{clauses_from}
use Rattle.clone_pair.specs.Meaning.{follows, same}

module _ (b : Board) (p q : ℕ) where
  abbrev pub turn : ℕ → List (List ℤ)
  turn d = (neg_ℤ (pos (p * side b + d)) ∷ pos (q * side b + d) ∷ []) ∷ []

  -- wherever the fresh numbers begin
  pub same_is : (f : ℕ) → clauses_from b f (same b p q) ≡ flat_map turn (up_to (side b) 1)
  same_is f = numbered_map (number b (f - 1)) (follows p q) (range_with_len 1 (side b)) ∙ ap (flat_map turn) (all_up_to (side b))

  -- one clause as the code puts it
  module _ {P : Type 0} (𝓟 : Ghosts P) (d : ℕ) (low : 1 ≤ d) (x y : ℤ) where
    pub turn_put : (u v : ℕ) → u ≡ p * side b + d → v ≡ q * side b + d → u ≤ 4335 → v ≤ 4335 → x ≡ neg_ℤ (pos u) → y ≡ pos v → (s t : P) (r : Result Unit PlaceFault) →
        result_err r ≡ put_fault 𝓟.charge (x ∷ y ∷ []) (𝓟.held s) (𝓟.free s) → 𝓟.held t ≡ cond (is_ok r) (𝓟.held s ++ (x ∷ y ∷ []) ∷ []) (𝓟.held s) →
        𝓟.free t ≡ cond (is_ok r) (𝓟.free s - 𝓟.charge (x ∷ y ∷ [])) (𝓟.free s) → Writes 𝓟 (turn d) s t (result_err r)
    turn_put u v eu ev hu hv ex ey s t r fault holds room =
        writes_put 𝓟 (x ∷ y ∷ []) (neg_ℤ (pos (p * side b + d)) ∷ pos (q * side b + d) ∷ [])
        (ap₂ (λ a z. a ∷ z ∷ []) (ex ∙ ap (λ n. neg_ℤ (pos n)) eu) (ey ∙ ap pos ev))
        (valid_two (neg_ℤ (pos (p * side b + d))) (pos (q * side b + d)) (usable_not (p * side b + d) (omega arith) (omega arith)) (usable_is (q * side b + d) (omega arith) (omega arith)))
        s t r fault holds room
