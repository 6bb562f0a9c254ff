-- A sum as a totaller is handed it: by the numbers of its variables.
use Rattle.std.proofs.Common.{◌≡◌, ℕ, zero, suc, ◌+◌, ◌*◌, ◌<◌, ◌≤◌, true, List, [], ◌∷◌, ◌++◌, map, length, get_or, pos, neg_ℤ, Some, None, sym, refl, ap, ◌∙◌, ap₂, mul-le-mul, inl, inr, append-nil, arith}
use Rattle.std.specs.List.{range_with_len, AllByRecursion as Each}
use Rattle.std.proofs.ByRecursion.{All-map}
use Rattle.std.proofs.lemmas.List.{length-append, length-map}
use Rattle.std.proofs.lemmas.List.FromFn.{length-map-range_with_len}
use Rattle.std.proofs.lemmas.Bool.{cases_lt}
use Rattle.formulas.proofs.All.{all_counting_in}
use Rattle.std.proofs.lemmas.Bool.Decides.{nat_tests}
use Rattle.formulas.specs.Formula.{Formula, Literal, is, isnt}
use Rattle.formulas.specs.Numbered.{numbered, signed}
use Rattle.totals.specs.Items as sum
use Rattle.totals.specs.Items.{Item, item}
use Rattle.totals.specs.Totaller.{Totaller, Weight}
use Rattle.totallers.specs.declared.fault.TotallerFault.TheVariants.{Item as WrongItem}
use Rattle.totallers.specs.Writing as handed
use Rattle.totallers.specs.Writing.{good_item, good_items, items_fault, sum_clauses}
use Rattle.boards.specs.declared.board.Board.{Board}
use Rattle.boards.specs.Board.{cells, side}
use Rattle.boards.specs.Atoms.{Atom, at, cell_variables, fresh, number}
use Rattle.boards.proofs.Boards.{cells_small}
use Rattle.rules.specs.Rule.{Inside}
use Rattle.rules.proofs.Counted.{number_upto}
use Rattle.meanings.specs.Sum.{large_fault, literal, named, sum_formula}

good_from : (f v w : ℕ) → 1 ≤ v → v < f → v ≤ 65535 → Weight w → good_item f v w ≡ true
good_from f v w low before few h = grind (arith, nat_tests)

bad_item : (f v : ℕ) (vs us : List ℕ) → good_items f (v ∷ vs) (16 ∷ us) ≡ 0
bad_item f v vs us = grind (arith, nat_tests)

not_large : (b : Board) → side b ≤ 15 → large_fault b ≡ None
not_large b l = grind (arith, nat_tests)

is_large : (b : Board) → side b ≡ 16 → large_fault b ≡ Some (WrongItem 15)
is_large b e = grind (arith, nat_tests)

faulty_from : (vs ws : List ℕ) (f i : ℕ) → 1 ≤ length vs → length vs ≡ length ws → good_items f vs ws ≡ i → i < length vs → items_fault vs ws f ≡ Some (WrongItem i)
faulty_from vs ws f i some same good less = grind (arith, nat_tests)

faultless_from : (vs ws : List ℕ) (f : ℕ) → 1 ≤ length vs → length vs ≡ length ws → good_items f vs ws ≡ length vs → items_fault vs ws f ≡ None
faultless_from vs ws f some same good = grind (arith, nat_tests)

module _ (b : Board) (before : ℕ) where
  -- a cell with a digit has the number of a cell's variable
  pub cell_number : (a : Atom) → Inside b 0 a → (1 ≤ number b before a) × (number b before a ≤ cell_variables b)
  cell_number (at c d) i = number_upto b (cell_variables b) (cell_variables b) 0 (omega arith) (omega arith) (at c d) i
  cell_number (fresh j) i = absurd (omega arith)

  module _ (atoms : List Atom) where
    abbrev numbers : List ℕ
    numbers = map (number b before) atoms

    numbers_at : (atoms : List Atom) (i : ℕ) → number b before (get_or atoms i (at 0 0)) ≡ get_or (map (number b before) atoms) i 0
    numbers_at [] i = omega arith
    numbers_at (a ∷ atoms) zero = refl
    numbers_at (a ∷ atoms) (suc i) = numbers_at atoms i

    same_number : (a : Item) → number b before (named atoms a) ≡ handed.number numbers (before + 1) a
    same_number (item i) = numbers_at atoms i
    same_number (sum.fresh j) = refl

    same_literal : (l : Literal Item) → signed (number b before) (literal atoms l) ≡ signed (handed.number numbers (before + 1)) l
    same_literal (is a) = ap pos (same_number a)
    same_literal (isnt a) = ap (λ v. neg_ℤ (pos v)) (same_number a)

    same_clause : (c : List (Literal Item)) → map (signed (number b before)) (map (literal atoms) c) ≡ map (signed (handed.number numbers (before + 1))) c
    same_clause [] = refl
    same_clause (l ∷ c) = ap₂ ◌∷◌ (same_literal l) (same_clause c)

    same_clauses : (f : Formula Item) → numbered (number b before) (map (map (literal atoms)) f) ≡ numbered (handed.number numbers (before + 1)) f
    same_clauses [] = refl
    same_clauses (c ∷ f) = ap₂ ◌∷◌ (same_clause c) (same_clauses f)

    -- the clauses of a sum are those that the totaller writes for these numbers
    pub sum_numbered : (𝓣 : Totaller) (ws : List ℕ) (t : ℕ) → numbered (number b before) (sum_formula 𝓣 atoms ws t) ≡ sum_clauses 𝓣 numbers ws t (before + 1)
    sum_numbered 𝓣 ws t = same_clauses (𝓣.formula ws t)

  module _ (f : ℕ) (after : cell_variables b < f) where
    item_good : (a : Atom) → Inside b 0 a → (x : ℕ) → Weight x → good_item f (number b before a) x ≡ true
    item_good a i x w =
        let n = cell_number a i in
        let few : cell_variables b ≤ 256 * 16 = mul-le-mul (cells_small b) b.small in
        good_from f (number b before a) x n.0 (omega arith) (omega arith) w

    -- items are good up to one that is not, or to their end
    good_upto : (atoms more : List Atom) (ws us : List ℕ) → Each (Inside b 0) atoms → Each Weight ws → length atoms ≡ length ws →
        good_items f (map (number b before) (atoms ++ more)) (ws ++ us) ≡ length atoms + good_items f (map (number b before) more) us
    good_upto [] more [] us i w e = omega arith
    good_upto [] more (x ∷ ws) us i w e = absurd (omega arith)
    good_upto (a ∷ atoms) more [] us i w e = absurd (omega arith)
    good_upto (a ∷ atoms) more (x ∷ ws) us i w e =
        let good = item_good a i.0 x w.0 in
        let later = good_upto atoms more ws us i.1 w.1 (omega arith) in
        rw good (omega (arith, later))

    -- of items that are cells with digits, the weights alone can be wrong: those of digits beyond 15
    module _ (c : ℕ) (on : c < cells b) (atoms more : List Atom) (ws us : List ℕ) (same : length atoms ≡ length ws) where
      abbrev ds : ℕ → List ℕ
      ds n = range_with_len 1 n

      small_items : Each (Inside b 0) atoms → Each Weight ws → 1 ≤ length atoms → items_fault (map (number b before) atoms) ws f ≡ None
      small_items i w some =
          let n = length-map atoms (number b before) in
          let good = good_upto atoms [] ws [] i w same in
          faultless_from (map (number b before) atoms) ws f (omega arith) (n ∙ same)
          (ap₂ (λ l u. good_items f (map (number b before) l) u) (sym (append-nil atoms)) (sym (append-nil ws)) ∙ good ∙ omega (arith, n))

      large_items : (n : ℕ) → n ≡ 16 → side b ≡ 16 → atoms ≡ map (at c) (ds n) ++ more → ws ≡ ds n ++ us → items_fault (map (number b before) atoms) ws f ≡ Some (WrongItem 15)
      large_items n e big ea ew =
          let ea' = ea ∙ ap (λ k. map (at c) (ds k) ++ more) e in
          let ew' = ew ∙ ap (λ k. ds k ++ us) e in
          let in_cell : Each (Inside b 0) (map (at c) (ds 15)) = All-map (Inside b 0) (at c) (ds 15) (all_counting_in (λ d. Inside b 0 (at c d)) 1 15 (λ d low high. (on, (low, omega (arith, big))))) in
          let first : Each Weight (ds 15) = all_counting_in Weight 1 15 (λ d low high. (low, omega arith)) in
          let stops = good_upto (map (at c) (ds 15)) (at c 16 ∷ more) (ds 15) (16 ∷ us) in_cell first refl in
          let none = bad_item f (number b before (at c 16)) (map (number b before) more) us in
          let good : good_items f (map (number b before) atoms) ws ≡ 15 = ap₂ (λ l u. good_items f (map (number b before) l) u) ea' ew' ∙ stops ∙ ap (λ k. 15 + k) none in
          let long : 15 < length atoms = omega (arith, ap length ea', length-append (map (at c) (ds 16)) more, length-map-range_with_len (at c) 1 16) in
          let n = length-map atoms (number b before) in
          faulty_from (map (number b before) atoms) ws f 15 (omega arith) (n ∙ same) good (omega arith)

      pub items_large : Each (Inside b 0) atoms → (side b ≤ 15 → Each Weight ws) → 1 ≤ length atoms → atoms ≡ map (at c) (ds (side b)) ++ more → ws ≡ ds (side b) ++ us →
          items_fault (map (number b before) atoms) ws f ≡ large_fault b
      items_large i w some ea ew =
          elim (cases_lt (side b) 16) [
            | inl l ↦ let small : side b ≤ 15 = omega arith in small_items i (w small) some ∙ sym (not_large b small)
            | inr l ↦ let big : side b ≡ 16 = omega (arith, b.small) in large_items (side b) big big ea ew ∙ sym (is_large b big)
          ]
