-- The words of a line, one after the other.
use Rattle.std.proofs.Common.{◌≡◌, ℕ, suc, ◌+◌, ◌≤◌, Bool, not, ltb, List, [], ◌∷◌, length, take, drop, filter, Option, refl, ap, ◌∙◌, subst, sym, inl, inr, one-add, arith}
use Rattle.std.specs.List.{onto_first, position, position_or_len, slice_split}
use Rattle.std.specs.Option.{unwrap_or}
use Rattle.std.proofs.lemmas.Bool.{cases_Bool, cond-true, cond-false, ltb-false}
use Rattle.std.proofs.lemmas.List.Folds.{length-prefix_len}
use Rattle.std.proofs.lemmas.List.Sums.{prefix_len-le-length}
use Rattle.desk.specs.DraftText.{blank, some, words_of}

-- where the first stands that passes, or the length
pub first_at : {X : Type 0} (q : X → Bool) (xs : List X) (o : Option ℕ) (n : ℕ) → o ≡ position q xs → n ≡ unwrap_or o (length xs) → n ≡ position_or_len q xs
first_at q xs o n found is =
    let few = prefix_len-le-length (λ x. not (q x)) xs in
    elim (cases_Bool (ltb (position_or_len q xs) (length xs))) [
      | inl t ↦ is ∙ ap (λ r. unwrap_or r (length xs)) (found ∙ cond-true (ltb (position_or_len q xs) (length xs)) _ _ t)
      | inr f ↦ is ∙ ap (λ r. unwrap_or r (length xs)) (found ∙ cond-false (ltb (position_or_len q xs) (length xs)) _ _ f) ∙ omega (arith, few, ltb-false (position_or_len q xs) (length xs) f)
    ]

-- blanks before a word say nothing
after_blanks : (xs : List ℕ) → words_of xs ≡ words_of (drop (position_or_len (λ x. not (blank x)) xs) xs)
after_blanks [] = refl
after_blanks (x ∷ xs) =
    elim (cases_Bool (blank x)) [
      | inl t ↦ rw t (after_blanks xs ∙ ap (λ k. words_of (drop k (x ∷ xs))) (sym (one-add (position_or_len (λ y. not (blank y)) xs))))
      | inr f ↦ rw f (rw f refl)
    ]

-- the first piece, and the others
pieces_are : (xs : List ℕ) → slice_split blank xs ≡ take (position_or_len blank xs) xs ∷ drop 1 (slice_split blank (drop (position_or_len blank xs) xs))
pieces_are [] = refl
pieces_are (x ∷ xs) =
    elim (cases_Bool (blank x)) [
      | inl t ↦ rw t (rw t refl)
      | inr f ↦ rw f (ap (onto_first x) (pieces_are xs) ∙ ap (λ k. take k (x ∷ xs) ∷ drop 1 (slice_split blank (drop k (x ∷ xs)))) (sym (one-add (position_or_len blank xs))))
    ]

-- behind the first piece another begins with nothing
next_empty : (xs : List ℕ) → slice_split blank (drop (position_or_len blank xs) xs) ≡ [] ∷ drop 1 (slice_split blank (drop (position_or_len blank xs) xs))
next_empty [] = refl
next_empty (x ∷ xs) =
    elim (cases_Bool (blank x)) [
      | inl t ↦ rw t (rw t refl)
      | inr f ↦ rw f (subst behind (sym (one-add (position_or_len blank xs))) (next_empty xs))
    ]
  where
    behind : ℕ → Type 0
    behind k = slice_split blank (drop k (x ∷ xs)) ≡ [] ∷ drop 1 (slice_split blank (drop k (x ∷ xs)))

-- a word and what stands behind it
word_before : (xs : List ℕ) (n : ℕ) → n ≡ position_or_len blank xs → 1 ≤ n → words_of xs ≡ take n xs ∷ words_of (drop n xs)
word_before xs n at l =
    let rest = drop 1 (slice_split blank (drop n xs)) in
    let here : slice_split blank xs ≡ take n xs ∷ rest = rw at (pieces_are xs) in
    let next : slice_split blank (drop n xs) ≡ [] ∷ rest = rw at (next_empty xs) in
    let size : length (take n xs) ≡ n = rw at (length-prefix_len (λ x. not (blank x)) xs) in
    ap (filter some) here ∙ grind (arith, size, ap (filter some) next)

-- what follows the blanks begins with a word
word_begins : (xs : List ℕ) → 1 ≤ length (drop (position_or_len (λ x. not (blank x)) xs) xs) →
    1 ≤ position_or_len blank (drop (position_or_len (λ x. not (blank x)) xs) xs)
word_begins [] l = absurd (omega arith)
word_begins (x ∷ xs) l =
    let n = position_or_len (λ y. not (blank y)) xs in
    let more : ℕ → Type 0 = λ k. 1 ≤ length (drop k (x ∷ xs)) in
    let begins : ℕ → Type 0 = λ k. 1 ≤ position_or_len blank (drop k (x ∷ xs)) in
    elim (cases_Bool (blank x)) [
      | inl t ↦
          let front : position_or_len (λ y. not (blank y)) (x ∷ xs) ≡ suc n = rw t (one-add n) in
          subst begins (sym front) (word_begins xs (subst more front l))
      | inr f ↦
          let front : position_or_len (λ y. not (blank y)) (x ∷ xs) ≡ 0 = rw f refl in
          let one : position_or_len blank (x ∷ xs) ≡ 1 + position_or_len blank xs = rw f refl in
          subst begins (sym front) (omega arith)
    ]

module _ (xs : List ℕ) (start : ℕ) (begins : start ≡ position_or_len (λ x. not (blank x)) xs) where
  -- where nothing follows the blanks there is no word
  pub no_word : drop start xs ≡ [] → words_of xs ≡ []
  no_word none = after_blanks xs ∙ ap (λ k. words_of (drop k xs)) (sym begins) ∙ ap words_of none

  -- the first word, and what stands behind it
  pub word_first : (end : ℕ) → end ≡ position_or_len blank (drop start xs) → 1 ≤ length (drop start xs) →
      words_of xs ≡ take end (drop start xs) ∷ words_of (drop end (drop start xs))
  word_first end ends l =
      let at = λ (k : ℕ). 1 ≤ position_or_len blank (drop k xs) in
      let begun : 1 ≤ position_or_len blank (drop start xs) = subst at (sym begins) (word_begins xs (subst (λ k. 1 ≤ length (drop k xs)) begins l)) in
      after_blanks xs ∙ ap (λ k. words_of (drop k xs)) (sym begins) ∙ word_before (drop start xs) end ends (omega arith)
