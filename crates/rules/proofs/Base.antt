-- The base formula holds just where the cells show a grid that breaks no row, column or box.
use Rattle.std.proofs.Common.{◌≡◌, ℕ, ◌<◌, ◌≤◌, Bool, true, eqb, List, ◌++◌, get_or, sym, ◌∙◌, mul-le-mul, arith}
use Rattle.std.specs.List.{range_with_len, AllByRecursion as Each}
use Rattle.std.proofs.lemmas.List.FromFn.{length-map-range_with_len}
use Rattle.std.proofs.ByRecursion.{All-append, All-map, All-get_or, All-from_get_or, All-weaker}
use Rattle.std.proofs.lemmas.Bool.Decides.{nat_tests}
use Rattle.formulas.specs.Formula.{Literal, is, Clause, Holds, some_true, under, variable, SpeaksOf, SizedClause}
use Rattle.formulas.proofs.All.{all_counting_in, all_counting_out, all_joined_in, all_joined_out, all_left, all_map_out, all_right}
use Rattle.boards.specs.declared.board.Board.{Board}
use Rattle.boards.specs.Board.{cells, lines, pairs, side}
use Rattle.boards.specs.Atoms.{Atom, at}
use Rattle.boards.specs.Base.{base, each_line_apart, no_repeat, no_two_digits, not_both, not_same, one_digit_each, some_digit, some_digit_each}
use Rattle.rules.specs.Grid.{Clean, Digit, Grid, Together}
use Rattle.rules.specs.Rule.{Inside}
use Rattle.rules.proofs.Lines.{lines_in, lines_out}
use Rattle.rules.proofs.Lists.{all_pairs_in, all_pairs_out, chosen}
use Rattle.rules.proofs.Marks.{Only, only_one, some_in, some_map, some_out}

-- each cell has the digit that g has there
abbrev pub Agrees : Board → (Atom → Bool) → List ℕ → Type 0
Agrees b v g = (c d : ℕ) → c < cells b → Digit b d → v (at c d) ≡ eqb (get_or g c 0) d

-- the three parts of the base formula, for any property of clauses
module _ (b : Board) (P : Clause Atom → Type 0) where
  abbrev Digits : Type 0
  Digits = (c : ℕ) → c < cells b → P (some_digit b c)

  abbrev Twos : Type 0
  Twos = (c : ℕ) → c < cells b → (x y : ℕ) → 1 ≤ x → x < y → y ≤ side b → P (not_both (at c x) (at c y))

  abbrev Repeats : Type 0
  Repeats = (p q : ℕ) → p < q → q < cells b → Together b p q → (d : ℕ) → Digit b d → P (not_both (at p d) (at q d))

  base_in : Digits → Twos → Repeats → Each P (base b)
  base_in D T R =
      All-append P (some_digit_each b) _
      (All-map P (some_digit b) (range_with_len 0 (cells b)) (all_counting_in _ 0 (cells b) (λ c _ l. D c (omega arith))))
      (All-append P (one_digit_each b) _
      (all_joined_in P (no_two_digits b) (range_with_len 0 (cells b)) (all_counting_in _ 0 (cells b) (λ c _ l.
      All-map P _ (pairs (range_with_len 1 (side b))) (all_pairs_in _ 1 (side b) (λ x y lx m ly. T c (omega arith) x y lx m (omega arith))))))
      (all_joined_in P (no_repeat b) (lines b) (All-weaker _ _ (λ l. all_joined_in P (not_same b) (pairs l)) (lines b)
      (lines_in b (λ p. Each P (not_same b p)) (λ p q l u t.
      All-map P _ (range_with_len 1 (side b)) (all_counting_in _ 1 (side b) (λ d ld ud. R p q l u t d (ld, omega arith))))))))

  module _ (h : Each P (base b)) where
    digits_out : Digits
    digits_out c l =
        all_counting_out _ 0 (cells b) (all_map_out P (some_digit b) (range_with_len 0 (cells b)) (all_left P _ _ h)) c (omega arith) (omega arith)

    after_digits : Each P (one_digit_each b ++ each_line_apart b)
    after_digits = all_right P (some_digit_each b) _ h

    twos_out : Twos
    twos_out c l x y lx m ly =
        all_pairs_out _ 1 (side b) (all_map_out P _ (pairs (range_with_len 1 (side b)))
        (all_counting_out _ 0 (cells b) (all_joined_out P (no_two_digits b) (range_with_len 0 (cells b)) (all_left P _ _ after_digits)) c (omega arith) (omega arith)))
        x y lx m (omega arith)

    repeats_out : Repeats
    repeats_out p q l u t d i =
        all_counting_out _ 1 (side b) (all_map_out P _ (range_with_len 1 (side b))
        (lines_out b (λ p. Each P (not_same b p)) (All-weaker _ _ (λ l. all_joined_out P (not_same b) (pairs l)) (lines b)
        (all_joined_out P (no_repeat b) (lines b) (all_right P (one_digit_each b) _ after_digits))) p q l u t))
        d i.0 (omega arith)

module _ (b : Board) where
  pub digit_at : (g : List ℕ) → Grid b g → (c : ℕ) → c < cells b → Digit b (get_or g c 0)
  digit_at g G c l = All-get_or (Digit b) g c 0 (omega (arith, G.size)) G.digits

  pub base_contained : (m : ℕ) → SpeaksOf (Inside b m) (base b)
  base_contained m =
      base_in b (λ c. Each (λ l. Inside b m (variable l)) c)
      (λ c l. All-map _ (λ d. is (at c d)) (range_with_len 1 (side b)) (all_counting_in _ 1 (side b) (λ d ld ud. omega arith)))
      (λ c l x y lx k ly. omega arith)
      (λ p q l u t d i. omega arith)

  pub base_sized : Each SizedClause (base b)
  base_sized =
      let some : 1 ≤ side b = mul-le-mul b.tall b.wide in
      base_in b SizedClause
      (λ c l. omega (arith, length-map-range_with_len {X = Literal Atom} (λ d. is (at c d)) 1 (side b), b.small))
      (λ c l x y lx k ly. omega arith)
      (λ p q l u t d i. omega arith)

  module _ (v : Atom → Bool) where
    abbrev Ok : Clause Atom → Type 0
    Ok c = some_true (under v) c ≡ true

    -- a cell has one digit
    cell_out : Holds (under v) (base b) → (c : ℕ) → c < cells b → (d : ℕ) × Digit b d × Only (λ x. v (at c x)) 1 (side b) d
    cell_out h c l =
        let some = sym (some_map (under v) (λ x. is (at c x)) (range_with_len 1 (side b))) ∙ digits_out b Ok h c l in
        let (d, low, high, t) = some_out (λ x. v (at c x)) 1 (side b) some in
        (d, (low, omega arith), only_one (λ x. v (at c x)) 1 (side b) d low high t (λ x y lx m ly. twos_out b Ok h c l x y lx m (omega arith)))

    pub base_grid : Holds (under v) (base b) → (g : List ℕ) × Grid b g × Agrees b v g
    base_grid h =
        let (g, e, k) = chosen (cells b) (λ c d. Digit b d × Only (λ x. v (at c x)) 1 (side b) d)
        (λ c l. let (d, i, o) = cell_out h c l in (d, (i, o))) in (
          g,
          record { size = e; digits = All-from_get_or (Digit b) g 0 (λ c l. (k c (omega arith)).0) },
          λ c d l i. (k c l).1 d i.0 (omega arith),
        )

    module _ (g : List ℕ) (G : Grid b g) (agrees : Agrees b v g) where
      pub base_clean : Holds (under v) (base b) → Clean b g
      base_clean h p q l u t e =
          let i = digit_at g G p (omega arith) in
          let k = repeats_out b Ok h p q l u t (get_or g p 0) i in
          let x = agrees p (get_or g p 0) (omega arith) i in
          let y = agrees q (get_or g p 0) u i in
          grind (arith, nat_tests)

      pub base_holds : Clean b g → Holds (under v) (base b)
      base_holds clean =
          base_in b Ok
          (λ c l.
          let i = digit_at g G c l in
          let x = agrees c (get_or g c 0) l i in
          some_map (under v) (λ x. is (at c x)) (range_with_len 1 (side b)) ∙
          some_in (λ x. v (at c x)) 1 (side b) (get_or g c 0) i.0 (omega arith) (grind (arith, nat_tests)))
          (λ c l x y lx m ly.
          let p = agrees c x l (lx, omega arith) in
          let q = agrees c y l (omega arith, ly) in
          grind (arith, nat_tests))
          (λ p q l u t d i.
          let x = agrees p d (omega arith) i in
          let y = agrees q d u i in
          let k = clean p q l u t in
          grind (arith, nat_tests))
