-- The base clauses, as loops write them.
use Rattle.std.proofs.Common.{◌≡◌, ℕ, zero, suc, ◌+◌, ◌-◌, ◌*◌, ◌≤◌, true, leb, List, [], ◌∷◌, ◌++◌, map, length, ℤ, pos, sym, refl, ap, ◌∙◌, ap₂, mul-le-mul, arith}
use Rattle.std.specs.List.{range_with_len, flat_map}
use Rattle.std.proofs.lemmas.List.{length-map, map-append}
use Rattle.std.proofs.lemmas.List.Folds.{flat_map-map}
use Rattle.std.proofs.lemmas.Grind.{flat_map-append}
use Rattle.std.proofs.lemmas.Simd.{map-map}
use Rattle.std.proofs.lemmas.List.FromFn.{length-map-range_with_len, map-range_with_len_more}
use Rattle.std.proofs.lemmas.Bool.Decides.{nat_tests}
use Rattle.std.proofs.lemmas.Bool.{and_from, le-leb}
use Rattle.formulas.specs.Clause.{every, right_length, usable, valid}
use Rattle.formulas.specs.Formula.{is}
use Rattle.formulas.specs.Numbered.{signed}
use Rattle.formulas.proofs.Numbered.{numbered_joined, numbered_map}
use Rattle.places.proofs.Loops.{all_up_to, below, up_to}
use Rattle.boards.specs.declared.board.Board.{Board}
use Rattle.boards.specs.Board.{side, cells, lines, pairs}
use Rattle.boards.specs.Atoms.{Atom, at, number, cell_variables}
use Rattle.boards.specs.Base.{not_both, some_digit, some_digit_each, no_later_digit, no_two_digits, not_same, differs, no_repeat, one_digit_each, each_line_apart, base, clauses_of}

-- each cell with those that follow it
abbrev pub tails : List ℕ → List (ℕ × List ℕ)
tails [] = []
tails (x ∷ xs) = (x, xs) ∷ tails xs

module _ (b : Board) where
  abbrev N : Atom → ℕ
  N = number b (cell_variables b)

  -- what two loops over later cells write
  repeat_by : (l : List ℕ) → no_repeat b l ≡ flat_map (λ t. differs b t.0 t.1) (tails l)
  repeat_by [] = refl
  repeat_by (x ∷ xs) =
      flat_map-append (not_same b) (map (λ y. (x, y)) xs) (pairs xs) ∙ ap₂ ◌++◌ (flat_map-map (not_same b) (λ y. (x, y)) xs) (repeat_by xs)

  -- the digits from a on, up to the side
  two_later : (c a n : ℕ) → a + n ≡ side b + 1 →
      map (λ p. not_both (at c p.0) (at c p.1)) (pairs (range_with_len a n)) ≡ flat_map (no_later_digit b c) (range_with_len a n)
  two_later c a zero e = refl
  two_later c a (suc n) e =
      let m : n ≡ side b - a = omega arith in
      map-append (λ p. not_both (at c p.0) (at c p.1)) (map (λ y. (a, y)) (range_with_len (a + 1) n)) (pairs (range_with_len (a + 1) n)) ∙
      ap₂ ◌++◌
      (map-map (λ p. not_both (at c p.0) (at c p.1)) (λ y. (a, y)) (range_with_len (a + 1) n) ∙ ap (λ k. map (λ y. not_both (at c a) (at c y)) (range_with_len (a + 1) k)) m)
      (two_later c (a + 1) n (omega arith))

  -- what each loop writes
  pub repeat_is : (l : List ℕ) → clauses_of b (no_repeat b l) ≡ flat_map (λ t. clauses_of b (differs b t.0 t.1)) (tails l)
  repeat_is l = ap (clauses_of b) (repeat_by l) ∙ numbered_joined N (λ t. differs b t.0 t.1) (tails l)

  pub differs_is : (c : ℕ) (l : List ℕ) → clauses_of b (differs b c l) ≡ flat_map (λ q. clauses_of b (not_same b (c, q))) l
  differs_is c l = numbered_joined N (λ q. not_same b (c, q)) l

  pub two_is : (c : ℕ) → clauses_of b (no_two_digits b c) ≡ flat_map (λ d. clauses_of b (no_later_digit b c d)) (up_to (side b) 1)
  two_is c =
      ap (clauses_of b) (two_later c 1 (side b) (omega arith) ∙ ap (flat_map (no_later_digit b c)) (all_up_to (side b))) ∙
      numbered_joined N (no_later_digit b c) (up_to (side b) 1)

  pub later_is : (c d : ℕ) → clauses_of b (no_later_digit b c d) ≡ flat_map (λ e. clauses_of b (not_both (at c d) (at c e) ∷ [])) (up_to (side b) (d + 1))
  later_is c d =
      let e : side b - d ≡ side b + 1 - (d + 1) = omega arith in
      ap (λ n. clauses_of b (map (λ e. not_both (at c d) (at c e)) (range_with_len (d + 1) n))) e ∙
      numbered_map N (λ e. not_both (at c d) (at c e)) (up_to (side b) (d + 1))

  pub same_is : (p q : ℕ) → clauses_of b (not_same b (p, q)) ≡ flat_map (λ d. clauses_of b (not_both (at p d) (at q d) ∷ [])) (up_to (side b) 1)
  same_is p q =
      ap (λ ds. clauses_of b (map (λ d. not_both (at p d) (at q d)) ds)) (all_up_to (side b)) ∙
      numbered_map N (λ d. not_both (at p d) (at q d)) (up_to (side b) 1)

  -- and the three loops of the base clauses
  pub base_is : clauses_of b (base b) ≡ flat_map (λ c. clauses_of b (some_digit b c ∷ [])) (below (cells b) 0) ++
      (flat_map (λ c. clauses_of b (no_two_digits b c)) (below (cells b) 0) ++ flat_map (λ l. clauses_of b (no_repeat b l)) (lines b))
  base_is =
      map-append (map (signed N)) (some_digit_each b) (one_digit_each b ++ each_line_apart b) ∙
      ap₂ ◌++◌ (numbered_map N (some_digit b) (below (cells b) 0))
      (map-append (map (signed N)) (one_digit_each b) (each_line_apart b) ∙
      ap₂ ◌++◌ (numbered_joined N (no_two_digits b) (below (cells b) 0)) (numbered_joined N (no_repeat b) (lines b)))

  -- the variables of the first n digits of a cell
  abbrev pub first_digits : ℕ → ℕ → List ℤ
  first_digits c n = map (λ d. pos (number b 0 (at c d))) (range_with_len 1 n)

  pub one_digit_more : (c d : ℕ) (xs : List ℤ) (x : ℤ) → 1 ≤ d → xs ≡ first_digits c (d - 1) → x ≡ pos (number b 0 (at c d)) →
      xs ++ x ∷ [] ≡ first_digits c (d + 1 - 1)
  one_digit_more c d xs x l before now =
      let n : d - 1 + 1 ≡ d + 1 - 1 = omega arith in
      ap₂ (λ p y. p ++ y ∷ []) before now ∙ sym (map-range_with_len_more (λ d. pos (number b 0 (at c d))) 1 (d - 1) d (omega arith)) ∙ ap (first_digits c) n

  -- the variables of a cell, as a clause
  pub digits_clause : (c a n : ℕ) → map (λ d. pos (number b 0 (at c d))) (range_with_len a n) ≡ map (signed N) (map (λ d. is (at c d)) (range_with_len a n))
  digits_clause c a n = sym (map-map (signed N) (λ d. is (at c d)) (range_with_len a n))

  length_digits : (c a n : ℕ) → length (map (signed N) (map (λ d. is (at c d)) (range_with_len a n))) ≡ n
  length_digits c a n = length-map (map (λ d. is (at c d)) (range_with_len a n)) (signed N) ∙ length-map-range_with_len (λ d. is (at c d)) a n

  digits_usable : (c a n : ℕ) → 1 ≤ a → c * side b + (a + n) ≤ 65536 → every usable (map (signed N) (map (λ d. is (at c d)) (range_with_len a n))) ≡ true
  digits_usable c a zero l u = refl
  digits_usable c a (suc n) l u =
      let ih = digits_usable c (a + 1) n (omega arith) (omega arith) in
      and_from (usable (pos (c * side b + a))) _ (grind (arith, nat_tests)) ih

  pub digits_valid : (c : ℕ) → c ≤ 255 → valid (map (signed N) (some_digit b c)) ≡ true
  digits_valid c l =
      let n = length_digits c 1 (side b) in
      let h : 1 ≤ side b = mul-le-mul b.tall b.wide in
      let k : c * side b ≤ 255 * 16 = mul-le-mul l b.small in
      let ds = map (signed N) (some_digit b c) in
      let few : right_length ds ≡ true =
      and_from (leb 1 (length ds)) (leb (length ds) 16) (le-leb 1 (length ds) (omega arith)) (le-leb (length ds) 16 (omega (arith, b.small))) in
      and_from (right_length ds) (every usable ds) few (digits_usable c 1 (side b) (omega arith) (omega (arith, b.small)))
