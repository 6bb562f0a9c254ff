-- A list that is made of marked pieces is cut into those pieces again.
use Rattle.std.proofs.Common.{◌≡◌, ℕ, ◌+◌, ◌-◌, ◌<◌, ◌≤◌, Bool, true, cond, not, List, [], ◌∷◌, ◌++◌, map, length, get_or, take, drop, count_by, sym, refl, ap, ◌∙◌, inl, inr, append_assoc, append-nil, arith, length-drop}
use Rattle.std.specs.List.{flat_map}
use Rattle.std.proofs.lemmas.List.{drop-append-le, drop_at, length_push, take_more}
use Rattle.std.proofs.lemmas.List.Sums.{sum_by-append, sum_by-cons}
use Rattle.std.proofs.lemmas.Bool.{and_parts, cases_eq, cases_lt, not-true, cond-true, cond-false, cond_both}
use Rattle.formulas.specs.Clause.{every}
use Rattle.formulas.proofs.Every.{every_drop}
use Rattle.formulas.proofs.Lists.{joined_append, joined_split}
use Rattle.spelling.specs.Spelling.{onto_first, pieces}

pub length_pieces : {X : Type 0} (ends : X → Bool) (xs : List X) → length (pieces ends xs) ≤ length xs
length_pieces ends [] = omega arith
length_pieces ends (x ∷ xs) =
    let ih = length_pieces ends xs in
    cond_both (ends x) ([] ∷ pieces ends xs) (onto_first x (pieces ends xs)) (λ ps. length ps ≤ length (x ∷ xs))
    (λ e. omega arith) (λ e. omega (arith, length_onto x (pieces ends xs)))
  where
    length_onto : {X : Type 0} (x : X) (ps : List (List X)) → length (onto_first x ps) ≡ length ps
    length_onto x [] = refl
    length_onto x (p ∷ ps) = refl

abbrev pub unmarked : {X : Type 0} → (X → Bool) → List X → Bool
unmarked ends xs = every (λ x. not (ends x)) xs

none_marked : {X : Type 0} (ends : X → Bool) (p : List X) → unmarked ends p ≡ true → count_by ends p ≡ 0
none_marked ends [] h = refl
none_marked ends (x ∷ p) h =
    let both = and_parts (not (ends x)) (unmarked ends p) h in
    omega (arith, sum_by-cons (λ y. cond (ends y) 1 0) x p, cond-false {A = ℕ} (ends x) 1 0 (not-true (ends x) both.0), none_marked ends p both.1)

marked_first : {X : Type 0} (ends : X → Bool) (e : X) → ends e ≡ true → (xs : List X) → count_by ends (e ∷ xs) ≡ 1 + count_by ends xs
marked_first ends e marks xs = omega (arith, sum_by-cons (λ y. cond (ends y) 1 0) e xs, cond-true {A = ℕ} (ends e) 1 0 marks)

module _ {X : Type 0} (ends : X → Bool) (e : X) (marks : ends e ≡ true) where
  pub pieces_first : (p xs : List X) → every (λ x. not (ends x)) p ≡ true → pieces ends (p ++ e ∷ xs) ≡ p ∷ pieces ends xs
  pieces_first [] xs h = cond-true (ends e) _ _ marks
  pieces_first (x ∷ p) xs h =
      let both = and_parts (not (ends x)) (unmarked ends p) h in
      cond-false (ends x) _ _ (not-true (ends x) both.0) ∙ ap (onto_first x) (pieces_first p xs both.1)

  module _ {A : Type 0} (body : A → List X) where
    abbrev closed_by : List A → List X
    closed_by bs = flat_map (λ b. body b ++ e ∷ []) bs

    pub pieces_closed : (bs : List A) (xs : List X) → every (λ b. every (λ x. not (ends x)) (body b)) bs ≡ true →
        pieces ends (flat_map (λ b. body b ++ e ∷ []) bs ++ xs) ≡ map body bs ++ pieces ends xs
    pieces_closed [] xs h = refl
    pieces_closed (b ∷ bs) xs h =
        let both = and_parts (unmarked ends (body b)) (every (λ b. unmarked ends (body b)) bs) h in
        ap (pieces ends) (append_assoc (body b ++ e ∷ []) (closed_by bs) xs ∙ append_assoc (body b) (e ∷ []) (closed_by bs ++ xs)) ∙
        pieces_first (body b) (closed_by bs ++ xs) both.0 ∙
        ap (λ ps. body b ∷ ps) (pieces_closed bs xs both.1)

    -- each closed piece has one mark
    pub marks_closed : (bs : List A) → every (λ b. every (λ x. not (ends x)) (body b)) bs ≡ true → count_by ends (flat_map (λ b. body b ++ e ∷ []) bs) ≡ length bs
    marks_closed [] h = refl
    marks_closed (b ∷ bs) h =
        let both = and_parts (unmarked ends (body b)) (every (λ b. unmarked ends (body b)) bs) h in
        omega (
          arith,
          sum_by-append (λ x. cond (ends x) 1 0) (body b ++ e ∷ []) (closed_by bs),
          sum_by-append (λ x. cond (ends x) 1 0) (body b) (e ∷ []),
          none_marked ends (body b) both.0,
          marked_first ends e marks [],
          marks_closed bs both.1,
        )

-- The end of a list of closed pieces that begins at r, and has at most n marks, but has more if it begins earlier.
module _ {X A : Type 0} (ends : X → Bool) (e : X) (marks : ends e ≡ true) (body : A → List X) (bs : List A)
    (plain : every (λ b. every (λ x. not (ends x)) (body b)) bs ≡ true) where
  abbrev lines : List A → List X
  lines cs = flat_map (λ b. body b ++ e ∷ []) cs

  -- so many marks stand behind the first m pieces
  behind : (m : ℕ) → m ≤ length bs → count_by ends (drop (length (lines (take m bs))) (lines bs)) + m ≡ length bs
  behind m l =
      let rest : drop (length (lines (take m bs))) (lines bs) ≡ lines (drop m bs) =
      ap (drop (length (lines (take m bs)))) (joined_split (λ b. body b ++ e ∷ []) bs m) ∙ drop_at (lines (take m bs)) (lines (drop m bs)) (length (lines (take m bs))) refl in
      omega (arith, ap (count_by ends) rest, marks_closed ends e marks body (drop m bs) (every_drop (λ b. every (λ x. not (ends x)) (body b)) m bs plain), length-drop m bs)

  -- and one more before that
  before : (d : A) (m r : ℕ) → m ≤ length bs → r < length (lines (take m bs)) → length bs < count_by ends (drop r (lines bs)) + m
  before d m r l u =
      elim (cases_eq m 0) [
        | inl z ↦ absurd (omega (arith, ap (λ k. length (lines (take k bs))) z))
        | inr z ↦
            let k = m - 1 in
            let c = get_or bs k d in
            let front = lines (take k bs) ++ body c in
            let step : lines (take m bs) ≡ front ++ e ∷ [] =
            ap (λ j. lines (take j bs)) (omega arith) ∙ ap lines (take_more bs k d (omega arith)) ∙ joined_append (λ b. body b ++ e ∷ []) (take k bs) (c ∷ []) ∙
            ap (λ q. lines (take k bs) ++ q) (append-nil (body c ++ e ∷ [])) ∙ sym (append_assoc (lines (take k bs)) (body c) (e ∷ [])) in
            let whole : lines bs ≡ front ++ e ∷ lines (drop m bs) =
            joined_split (λ b. body b ++ e ∷ []) bs m ∙ ap (λ q. q ++ lines (drop m bs)) step ∙ append_assoc front (e ∷ []) (lines (drop m bs)) in
            let size = length_push front e in
            let cut : drop r (lines bs) ≡ drop r front ++ e ∷ lines (drop m bs) =
            ap (drop r) whole ∙ drop-append-le r front (e ∷ lines (drop m bs)) (omega (arith, ap length step)) in
            omega (
              arith,
              ap (count_by ends) cut,
              sum_by-append (λ x. cond (ends x) 1 0) (drop r front) (e ∷ lines (drop m bs)),
              marked_first ends e marks (lines (drop m bs)),
              marks_closed ends e marks body (drop m bs) (every_drop (λ b. every (λ x. not (ends x)) (body b)) m bs plain),
              length-drop m bs,
            )
      ]

  pub begins_at : (d : A) (xs : List X) (m n r : ℕ) → xs ≡ lines bs → m + n ≡ length bs → count_by ends (drop r xs) ≤ n →
      ((k : ℕ) → k < r → n < count_by ends (drop k xs)) → r ≡ length (lines (take m bs))
  begins_at d xs m n r e size most least =
      let s = length (lines (take m bs)) in
      let same : (k : ℕ) → count_by ends (drop k xs) ≡ count_by ends (drop k (lines bs)) = λ k. ap (λ l. count_by ends (drop k l)) e in
      elim (cases_lt r s) [
        | inl l ↦ absurd (omega (arith, before d m r (omega arith) l, same r))
        | inr l ↦ elim (cases_eq r s) [
          | inl q ↦ q
          | inr q ↦ absurd (omega (arith, least s (omega arith), behind m (omega arith), same s))
        ]
      ]
