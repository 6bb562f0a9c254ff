-- A line of givens, character by character.
use Rattle.std.proofs.Common.{◌≡◌, ℕ, ◌+◌, ◌-◌, ◌*◌, ◌≤◌, Bool, true, false, ◌&&◌, ◌||◌, eqb, List, [], ◌∷◌, ◌++◌, map, length, get_or, drop, ℤ, pos, sym, refl, ap, ◌∙◌, inl, inr, arith}
use Rattle.std.specs.List.{flat_map, list_all, zip}
use Rattle.std.proofs.lemmas.List.{drop_more, map-append}
use Rattle.std.proofs.lemmas.Bool.{cases_Bool, cond-true, cond-false}
use Rattle.std.proofs.lemmas.Bool.Decides.{nat_tests}
use Rattle.formulas.specs.Formula.{is}
use Rattle.formulas.specs.Numbered.{signed}
use Rattle.places.proofs.Loops.{below, counted_is}
use Rattle.boards.specs.declared.board.Board.{Board}
use Rattle.boards.specs.Board.{side}
use Rattle.boards.specs.Atoms.{at, number}
use Rattle.kinds.specs.Answers.{clauses_from}
use Rattle.meanings.specs.Givens.{blank, digit_of, fitting, shows, stated}

stated_first : (c ch : ℕ) (chs : List ℕ) → stated c (ch ∷ chs) ≡ stated c (ch ∷ []) ++ stated (c + 1) chs
stated_first c ch chs =
    elim (cases_Bool (blank ch)) [
      | inl e ↦ rw e
      | inr e ↦ rw e
    ]

-- what the character at i says
abbrev pub character_turn : Board → ℕ → List ℕ → ℕ → List (List ℤ)
character_turn b f body i = clauses_from b f (stated i (get_or body i 0 ∷ []))

pub stated_is : (b : Board) (f : ℕ) (body : List ℕ) → clauses_from b f (stated 0 body) ≡ flat_map (character_turn b f body) (below (length body) 0)
stated_is b f body =
    counted_is (λ i r. clauses_from b f (stated i r)) (λ i ch. clauses_from b f (stated i (ch ∷ []))) (λ i. refl)
    (λ i ch chs. ap (clauses_from b f) (stated_first i ch chs) ∙ map-append (map (signed (number b (f - 1)))) (stated i (ch ∷ [])) (stated (i + 1) chs)) body 0

-- one character
module _ (b : Board) (f c ch : ℕ) where
  pub blank_says : blank ch ≡ true → clauses_from b f (stated c (ch ∷ [])) ≡ []
  blank_says h = ap (clauses_from b f) (cond-true (blank ch) [] ((is (at c (digit_of ch)) ∷ []) ∷ []) h)

  pub digit_says : blank ch ≡ false → clauses_from b f (stated c (ch ∷ [])) ≡ (pos (c * side b + (ch - 48)) ∷ []) ∷ []
  digit_says h = ap (clauses_from b f) (cond-false (blank ch) [] ((is (at c (digit_of ch)) ∷ []) ∷ []) h)

pub character_low : (b : Board) (ch : ℕ) → fitting b ch ≡ true → blank ch ≡ false → 49 ≤ ch
character_low b ch h e = grind (arith, nat_tests)

-- whether a digit is that of a character, if it is one
abbrev pub agree : ℕ × ℕ → Bool
agree p = blank p.0 || eqb p.1 (digit_of p.0)

-- the judgement, as one test of each character and its digit
shows_from : (g : List ℕ) (c : ℕ) (chs : List ℕ) → c + length chs ≤ length g → shows g c chs ≡ list_all agree (zip chs (drop c g))
shows_from g c [] l = refl
shows_from g c (ch ∷ chs) l =
    ap (λ x. agree (ch, get_or g c 0) && x) (shows_from g (c + 1) chs (omega arith)) ∙ sym (ap (λ r. list_all agree (zip (ch ∷ chs) r)) (drop_more g c 0 (omega arith)))

pub shows_is : (g body : List ℕ) → length body ≡ length g → shows g 0 body ≡ list_all agree (zip body g)
shows_is g body e = shows_from g 0 body (omega arith)
