-- The clauses of a thermometer, step by step, and the judgement of its digits.
use Rattle.std.proofs.Common.{◌≡◌, ℕ, ◌+◌, ◌-◌, ◌*◌, ◌<◌, ◌≤◌, true, cond, List, [], ◌∷◌, ◌++◌, map, length, get_or, take, drop, ℤ, pos, neg_ℤ, is_ok, Result, refl, ap, ◌∙◌, ap₂, arith}
use Rattle.std.specs.List.{range_with_len, flat_map}
use Rattle.std.specs.Result.{result_err}
use Rattle.std.proofs.lemmas.List.{map-append}
use Rattle.formulas.specs.Numbered.{signed}
use Rattle.formulas.proofs.Numbered.{numbered_joined, numbered_map}
use Rattle.formulas.proofs.Valid.{usable_not, valid_two}
use Rattle.places.specs.declared.fault.PlaceFault.{PlaceFault}
use Rattle.places.specs.declared.place.Place.{Ghosts}
use Rattle.places.specs.Put.{put_fault}
use Rattle.places.specs.Written.{Writes}
use Rattle.places.proofs.Written.{writes_put}
use Rattle.places.proofs.Loops.{all_up_to, up_to}
use Rattle.boards.specs.declared.board.Board.{Board}
use Rattle.boards.specs.Board.{side}
use Rattle.boards.specs.Atoms.{at, number}
use Rattle.boards.specs.Base.{not_both}
use Rattle.kinds.specs.Answers.{clauses_from}
use Rattle.meanings.specs.Thermometer.{below, rises, rising}

-- each cell with the next
abbrev pub steps : List ℕ → List (ℕ × ℕ)
steps [] = []
steps (c ∷ []) = []
steps (c ∷ d ∷ cs) = (c, d) ∷ steps (d ∷ cs)

-- one cell has no step
pub few_steps : (cs : List ℕ) → length cs < 2 → steps cs ≡ []
few_steps [] l = refl
few_steps (c ∷ []) l = refl
few_steps (c ∷ d ∷ cs) l = absurd (omega arith)

-- the step between the first two cells, and then the others
pub more_steps : (cs pair rest : List ℕ) (n : ℕ) → n ≡ 2 → n ≤ length cs → pair ≡ take n cs → rest ≡ drop 1 cs →
    steps cs ≡ (get_or pair 0 0, get_or pair 1 0) ∷ steps rest
more_steps [] pair rest n two l first then = absurd (omega arith)
more_steps (c ∷ []) pair rest n two l first then = absurd (omega arith)
more_steps (c ∷ d ∷ cs) pair rest n two l first then = rw (first, two, then) refl

pub rising_is : (b : Board) (f : ℕ) (cs : List ℕ) → clauses_from b f (rising b cs) ≡ flat_map (λ s. clauses_from b f (below b s.0 s.1)) (steps cs)
rising_is b f [] = refl
rising_is b f (c ∷ []) = refl
rising_is b f (c ∷ d ∷ cs) =
    map-append (map (signed (number b (f - 1)))) (below b c d) (rising b (d ∷ cs)) ∙ ap (λ r. clauses_from b f (below b c d) ++ r) (rising_is b f (d ∷ cs))

pub few_rise : (g cs : List ℕ) → length cs < 2 → rises g cs ≡ true
few_rise g [] l = refl
few_rise g (c ∷ []) l = refl
few_rise g (c ∷ d ∷ cs) l = absurd (omega arith)

-- what one turn of a loop writes
module _ (b : Board) (f p q : ℕ) where
  abbrev pub digit_turn : ℕ → List (List ℤ)
  digit_turn d = clauses_from b f (map (λ e. not_both (at p d) (at q e)) (range_with_len 1 d))

  pub below_is : clauses_from b f (below b p q) ≡ flat_map digit_turn (up_to (side b) 1)
  below_is =
      numbered_joined (number b (f - 1)) (λ d. map (λ e. not_both (at p d) (at q e)) (range_with_len 1 d)) (range_with_len 1 (side b)) ∙
      ap (flat_map digit_turn) (all_up_to (side b))

  abbrev pub pair_turn : ℕ → ℕ → List (List ℤ)
  pair_turn d e = clauses_from b f (not_both (at p d) (at q e) ∷ [])

  pub digit_is : (d : ℕ) → digit_turn d ≡ flat_map (pair_turn d) (up_to d 1)
  digit_is d = numbered_map (number b (f - 1)) (λ e. not_both (at p d) (at q e)) (range_with_len 1 d) ∙ ap (flat_map (pair_turn d)) (all_up_to d)

-- one clause as the code puts it
module _ {P : Type 0} (𝓟 : Ghosts P) (b : Board) (f p q d e : ℕ) (low_d : 1 ≤ d) (low_e : 1 ≤ e) (x y : ℤ) where
  pub pair_put : (u v : ℕ) → u ≡ p * side b + d → v ≡ q * side b + e → u ≤ 65535 → v ≤ 65535 → x ≡ neg_ℤ (pos u) → y ≡ neg_ℤ (pos v) → (s t : P) (r : Result Unit PlaceFault) →
      result_err r ≡ put_fault 𝓟.charge (x ∷ y ∷ []) (𝓟.held s) (𝓟.free s) → 𝓟.held t ≡ cond (is_ok r) (𝓟.held s ++ (x ∷ y ∷ []) ∷ []) (𝓟.held s) →
      𝓟.free t ≡ cond (is_ok r) (𝓟.free s - 𝓟.charge (x ∷ y ∷ [])) (𝓟.free s) → Writes 𝓟 (pair_turn b f p q d e) s t (result_err r)
  pair_put u v eu ev hu hv ex ey s t r fault holds room =
      writes_put 𝓟 (x ∷ y ∷ []) (neg_ℤ (pos (p * side b + d)) ∷ neg_ℤ (pos (q * side b + e)) ∷ [])
      (ap₂ (λ a z. a ∷ z ∷ []) (ex ∙ ap (λ n. neg_ℤ (pos n)) eu) (ey ∙ ap (λ n. neg_ℤ (pos n)) ev))
      (valid_two (neg_ℤ (pos (p * side b + d))) (neg_ℤ (pos (q * side b + e))) (usable_not (p * side b + d) (omega arith) (omega arith)) (usable_not (q * side b + e) (omega arith) (omega arith)))
      s t r fault holds room
