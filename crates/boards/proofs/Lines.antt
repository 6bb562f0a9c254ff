-- The cells of rows, columns and boxes by their places in the line.
use Rattle.std.proofs.Common.{◌≡◌, ℕ, zero, suc, ◌+◌, ◌-◌, ◌*◌, ◌/◌, ◌%◌, ◌<◌, ◌≤◌, Bool, true, eqb, List, [], ◌∷◌, ◌++◌, map, length, get_or, Some, None, filter, sym, ap, ◌∙◌, ap₂, inl, inr, mul-le-mul_right, mul-zero, zero-mul, arith, lit<}
use Rattle.std.specs.List.{range_with_len}
use Rattle.std.proofs.lemmas.Nat.{div-mul-add, mod-mul-add, div-add-mod', div_below, mod_below, mul-add-lt}
use Rattle.std.proofs.lemmas.List.FromFn.{get_or-map-range_with_len, length-map-range_with_len}
use Rattle.std.proofs.lemmas.List.{get_or_append_left, get_or-append_right, length-append}
use Rattle.std.proofs.lemmas.Bool.{cases_Bool, cases_eq, cases_lt, cond-true, cond-false, eq-eqb, eqb-true, lt-ltb, le-ltb}
use Rattle.boards.specs.declared.board.Board.{Board}
use Rattle.boards.specs.Line.{line_at}
use Rattle.boards.specs.Board.{side, cells, row_of, column_of, box_of, line, each_line, lines}
use Rattle.boards.proofs.Boards.{cells_small}

pub positive : (x y i : ℕ) → i < x * y → (0 < x) × (0 < y)
positive zero y i l = absurd (omega (arith, zero-mul y))
positive (suc x) zero i l = absurd (omega (arith, mul-zero (suc x)))
positive (suc x) (suc y) i l = omega arith

module _ (b : Board) where
  pub row_below : (c : ℕ) → c < cells b → row_of b c < side b
  row_below c l = div_below c (side b) (side b) (positive (side b) (side b) c l).0 l

  pub column_below : (c : ℕ) → c < cells b → column_of b c < side b
  column_below c l = mod_below c (side b) (positive (side b) (side b) c l).0

-- the numbers that pass a test are those that a rising function gives
module _ (t : ℕ → Bool) (f : ℕ → ℕ) where
  kept_rising : (a n lo hi : ℕ) → lo ≤ hi → ((k : ℕ) → lo ≤ k → k < hi → (a ≤ f k) × (f k < a + n) × (t (f k) ≡ true)) →
      ((j k : ℕ) → j < k → f j < f k) →
      ((c : ℕ) → a ≤ c → c < a + n → t c ≡ true → (k : ℕ) × (lo ≤ k) × (k < hi) × (f k ≡ c)) →
      filter t (range_with_len a n) ≡ map f (range_with_len lo (hi - lo))
  kept_rising a zero lo hi l in' up onto =
      elim (cases_eq lo hi) [
        | inl e ↦ let z : hi - lo ≡ 0 = omega arith in rw z
        | inr e ↦ absurd (let h = in' lo (omega arith) (omega arith) in omega arith)
      ]
  kept_rising a (suc n) lo hi l in' up onto =
      elim (cases_Bool (t a)) [
        | inl e ↦
            let (k, low, high, at) = onto a (omega arith) (omega arith) e in
            let first : f lo ≡ a = elim (cases_eq lo k) [
              | inl q ↦ ap f q ∙ at
              | inr q ↦ absurd (let h = in' lo (omega arith) (omega arith) in omega (arith, up lo k (omega arith)))
            ] in
            let s : hi - lo ≡ suc (hi - (lo + 1)) = omega arith in
            rw (e, s) (ap₂ ◌∷◌ (sym first) (kept_rising (a + 1) n (lo + 1) hi (omega arith)
            (λ k low' high'. let h = in' k (omega arith) high' in let u = up lo k (omega arith) in (omega arith, omega arith, h.2))
            up
            (λ c lc uc p. let (k, lk, uk, q) = onto c (omega arith) (omega arith) p in
            let ne : lo ≡ k → ⊥ = λ z. let w = ap f z in omega arith in (k, omega arith, uk, q))))
        | inr e ↦
            rw e (kept_rising (a + 1) n lo hi l
            (λ k low high. let h = in' k low high in
            let ne : a ≡ f k → ⊥ = λ z. grind (arith, ap t z) in (omega arith, omega arith, h.2))
            up
            (λ c lc uc p. onto c (omega arith) (omega arith) p))
      ]

  kept_is : (a n : ℕ) → ((k : ℕ) → 0 ≤ k → k < n → (0 ≤ f k) × (f k < 0 + a) × (t (f k) ≡ true)) →
      ((j k : ℕ) → j < k → f j < f k) →
      ((c : ℕ) → 0 ≤ c → c < 0 + a → t c ≡ true → (k : ℕ) × (0 ≤ k) × (k < n) × (f k ≡ c)) →
      filter t (range_with_len 0 a) ≡ map f (range_with_len 0 n)
  kept_is a n inside up onto = kept_rising 0 a 0 n (omega arith) inside up onto ∙ ap (λ m. map f (range_with_len 0 m)) (omega arith)

module _ (b : Board) (i : ℕ) (l : i < side b) where
  pub row_is : line b (row_of b) i ≡ map (λ k. i * side b + k) (range_with_len 0 (side b))
  row_is =
      let n = side b in
      kept_is _ (λ k. i * n + k) (cells b) n
      (λ k low high. (omega arith, omega (arith, mul-add-lt i n k n l high), eq-eqb _ i (div-mul-add i n k high)))
      (λ j k u. omega arith)
      (λ c low high t.
      let e = eqb-true (row_of b c) i t in
      (c % n, omega arith, mod_below c n (omega arith), ap (λ r. r * n + c % n) (sym e) ∙ div-add-mod' c n))

  pub column_is : line b (column_of b) i ≡ map (λ k. k * side b + i) (range_with_len 0 (side b))
  column_is =
      let n = side b in
      kept_is _ (λ k. k * n + i) (cells b) n
      (λ k low high. (omega arith, omega (arith, mul-add-lt k n i n high l), eq-eqb _ i (mod-mul-add k n i l)))
      (λ j k u. omega (arith, mul-le-mul_right n u))
      (λ c low high t.
      let e = eqb-true (column_of b c) i t in
      (c / n, omega arith, div_below c n n (omega arith) (omega arith), ap (λ r. c / n * n + r) (sym e) ∙ div-add-mod' c n))

  abbrev box_cell : ℕ → ℕ
  box_cell k = (i / b.height * b.height + k / b.width) * side b + (i % b.height * b.width + k % b.width)

  pub box_is : line b (box_of b) i ≡ map box_cell (range_with_len 0 (side b))
  box_is = kept_is _ box_cell (cells b) n inside rising onto
    where
      n : ℕ
      n = side b

      h : ℕ
      h = b.height

      w : ℕ
      w = b.width

      both : (0 < h) × (0 < w)
      both = positive h w i l

      across : (k : ℕ) → i % h * w + k % w < n
      across k = omega (arith, mul-add-lt (i % h) w (k % w) h (mod_below i h both.0) (mod_below k w both.1))

      down : (k : ℕ) → k < n → i / h * h + k / w < n
      down k u =
          mul-add-lt (i / h) h (k / w) w (div_below i h w both.0 (omega arith)) (div_below k w h both.1 u)

      inside : (k : ℕ) → 0 ≤ k → k < n → (0 ≤ box_cell k) × (box_cell k < 0 + cells b) × (eqb (box_of b (box_cell k)) i ≡ true)
      inside k low high =
          let r : box_cell k / n ≡ i / h * h + k / w = div-mul-add (i / h * h + k / w) n (i % h * w + k % w) (across k) in
          let c : box_cell k % n ≡ i % h * w + k % w = mod-mul-add (i / h * h + k / w) n (i % h * w + k % w) (across k) in
          let up : (i / h * h + k / w) / h ≡ i / h = div-mul-add (i / h) h (k / w) (div_below k w h both.1 high) in
          let left : (i % h * w + k % w) / w ≡ i % h = div-mul-add (i % h) w (k % w) (mod_below k w both.1) in
          let e : box_of b (box_cell k) ≡ i =
          ap₂ (λ x y. x / h * h + y / w) r c ∙ ap₂ (λ x y. x * h + y) up left ∙ div-add-mod' i h in
          (omega arith, omega (arith, mul-add-lt (i / h * h + k / w) n (i % h * w + k % w) n (down k high) (across k)), eq-eqb _ i e)

      rising : (j k : ℕ) → j < k → box_cell j < box_cell k
      rising j k u =
          let dj = div-add-mod' j w in
          let dk = div-add-mod' k w in
          let mj = mod_below j w both.1 in
          let mk = mod_below k w both.1 in
          elim (cases_lt (j / w) (k / w)) [
            | inl q ↦
                let m : suc (i / h * h + j / w) * n ≤ (i / h * h + k / w) * n = mul-le-mul_right n (omega arith) in
                omega (arith, across j)
            | inr q ↦ elim (cases_eq (j / w) (k / w)) [
              | inl e ↦ let f : j / w * w ≡ k / w * w = ap (λ x. x * w) e in
                  let g : (i / h * h + j / w) * n ≡ (i / h * h + k / w) * n = ap (λ x. (i / h * h + x) * n) e in omega arith
              | inr e ↦ absurd (let m : suc (k / w) * w ≤ j / w * w = mul-le-mul_right w (omega arith) in omega arith)
            ]
          ]

      onto : (c : ℕ) → 0 ≤ c → c < 0 + cells b → eqb (box_of b c) i ≡ true → (k : ℕ) × (0 ≤ k) × (k < n) × (box_cell k ≡ c)
      onto c low high t =
          let r = row_of b c in
          let q = column_of b c in
          let u : c < cells b = omega arith in
          let s : q / w < h = div_below q w h both.1 (column_below b c u) in
          let e : r / h * h + q / w ≡ i = eqb-true (box_of b c) i t in
          let top : i / h ≡ r / h = ap (λ x. x / h) (sym e) ∙ div-mul-add (r / h) h (q / w) s in
          let left : i % h ≡ q / w = ap (λ x. x % h) (sym e) ∙ mod-mul-add (r / h) h (q / w) s in
          let k = r % h * w + q % w in
          let dk : k / w ≡ r % h = div-mul-add (r % h) w (q % w) (mod_below q w both.1) in
          let mk : k % w ≡ q % w = mod-mul-add (r % h) w (q % w) (mod_below q w both.1) in
          let rr : i / h * h + k / w ≡ r = ap₂ (λ x y. x * h + y) top dk ∙ div-add-mod' r h in
          let cc' : i % h * w + k % w ≡ q = ap₂ (λ x y. x * w + y) left mk ∙ div-add-mod' q w in (
            k,
            omega arith,
            omega (arith, mul-add-lt (r % h) w (q % w) h (mod_below r h both.0) (mod_below q w both.1)),
            ap₂ (λ x y. x * n + y) rr cc' ∙ div-add-mod' c n,
          )

-- the lines by their numbers
module _ (b : Board) where
  length_each : (of : ℕ → ℕ) → length (each_line b of) ≡ side b
  length_each of = length-map-range_with_len (line b of) 0 (side b)

  each_at : (of : ℕ → ℕ) (i : ℕ) → i < side b → get_or (each_line b of) i [] ≡ line b of i
  each_at of i l = get_or-map-range_with_len (line b of) 0 (side b) i i [] l (omega arith)

  pub length_lines : length (lines b) ≡ 3 * side b
  length_lines =
      omega (
        arith,
        length-append (each_line b (row_of b)) (each_line b (column_of b) ++ each_line b (box_of b)),
        length-append (each_line b (column_of b)) (each_line b (box_of b)),
        length_each (row_of b),
        length_each (column_of b),
        length_each (box_of b),
      )

  at_row : (i : ℕ) → i < side b → get_or (lines b) i [] ≡ line b (row_of b) i
  at_row i l =
      get_or_append_left (each_line b (row_of b)) (each_line b (column_of b) ++ each_line b (box_of b)) [] i (omega (arith, length_each (row_of b))) ∙
      each_at (row_of b) i l

  at_column : (i : ℕ) → side b ≤ i → i < 2 * side b → get_or (lines b) i [] ≡ line b (column_of b) (i - side b)
  at_column i low high =
      get_or-append_right (each_line b (row_of b)) (each_line b (column_of b) ++ each_line b (box_of b)) (side b) i [] (length_each (row_of b)) low ∙
      get_or_append_left (each_line b (column_of b)) (each_line b (box_of b)) [] (i - side b) (omega (arith, length_each (column_of b))) ∙
      each_at (column_of b) (i - side b) (omega arith)

  at_box : (i : ℕ) → 2 * side b ≤ i → i < 3 * side b → get_or (lines b) i [] ≡ line b (box_of b) (i - 2 * side b)
  at_box i low high =
      let e : i - side b - side b ≡ i - 2 * side b = omega arith in
      get_or-append_right (each_line b (row_of b)) (each_line b (column_of b) ++ each_line b (box_of b)) (side b) i [] (length_each (row_of b)) (omega arith) ∙
      get_or-append_right (each_line b (column_of b)) (each_line b (box_of b)) (side b) (i - side b) [] (length_each (column_of b)) (omega arith) ∙
      ap (λ j. get_or (each_line b (box_of b)) j []) e ∙ each_at (box_of b) (i - 2 * side b) (omega arith)

  -- every line has as many cells as the board has digits
  pub length_line : (i : ℕ) → i < 3 * side b → length (get_or (lines b) i []) ≡ side b
  length_line i l =
      elim (cases_lt i (side b)) [
        | inl r ↦ ap length (at_row i r ∙ row_is b i r) ∙ length-map-range_with_len _ 0 (side b)
        | inr r ↦ elim (cases_lt i (2 * side b)) [
          | inl c ↦ ap length (at_column i r c ∙ column_is b (i - side b) (omega arith)) ∙ length-map-range_with_len _ 0 (side b)
          | inr c ↦ ap length (at_box i c l ∙ box_is b (i - 2 * side b) (omega arith)) ∙ length-map-range_with_len _ 0 (side b)
        ]
      ]

-- each number of a line has one
pub some_line : (b : Board) (i : ℕ) → i < 3 * side b → None ≡ line_at b i → ⊥
some_line b i l none = let e = none ∙ cond-true _ (Some (get_or (lines b) i [])) None (lt-ltb i (3 * side b) l) in cc

-- and it has its cells
pub line_is : (b : Board) (i : ℕ) (l : List ℕ) → Some l ≡ line_at b i → l ≡ get_or (lines b) i []
line_is b i l some =
    elim (cases_lt i (3 * side b)) [
      | inl u ↦ let e = some ∙ cond-true _ (Some (get_or (lines b) i [])) None (lt-ltb i (3 * side b) u) in cc
      | inr u ↦ absurd (let e = some ∙ cond-false _ (Some (get_or (lines b) i [])) None (le-ltb i (3 * side b) u) in cc)
    ]

kept_small : (t : ℕ → Bool) (a n k m : ℕ) → a + n ≤ m → 0 < m → get_or (filter t (range_with_len a n)) k 0 < m
kept_small t a zero k m l p = p
kept_small t a (suc n) k m l p =
    elim (cases_Bool (t a)) [
      | inl e ↦ rw e (first (λ j. kept_small t (a + 1) n j m (omega arith) p) k)
      | inr e ↦ rw e (kept_small t (a + 1) n k m (omega arith) p)
    ]
  where
    first : ((j : ℕ) → get_or (filter t (range_with_len (a + 1) n)) j 0 < m) → (k : ℕ) → get_or (a ∷ filter t (range_with_len (a + 1) n)) k 0 < m
    first later zero = omega arith
    first later (suc k) = later k

-- The cell at the place k of the line i, where the code has n for the side.
module _ (b : Board) (n i k : ℕ) (e : n ≡ side b) (within : k < side b) where
  abbrev cell : ℕ
  cell = get_or (get_or (lines b) i []) k 0

  -- that is a byte, since x is in a line
  small : (x : ℕ) (of : ℕ → ℕ) (j : ℕ) → x ≡ get_or (line b of j) k 0 → x < 256
  small x of j q = omega (arith, kept_small (λ c. eqb (of c) j) 0 (cells b) k 256 (omega (arith, cells_small b)) (lit< tt))

  by_place : (f : ℕ → ℕ) (of : ℕ → ℕ) (j : ℕ) → line b of j ≡ map f (range_with_len 0 (side b)) → f k ≡ get_or (line b of j) k 0
  by_place f of j q = sym (ap (λ l. get_or l k 0) q ∙ get_or-map-range_with_len f 0 (side b) k k 0 within (omega arith))

  pub row_cell : i < n → (i * n + k < 256) × (i * n + k ≡ cell)
  row_cell l =
      let r = ap (λ m. i * m + k) e ∙ by_place (λ k. i * side b + k) (row_of b) i (row_is b i (omega arith)) in
      (small (i * n + k) (row_of b) i r, r ∙ ap (λ l. get_or l k 0) (sym (at_row b i (omega arith))))

  pub column_cell : n ≤ i → i < 2 * n → (k * n + (i - n) < 256) × (k * n + (i - n) ≡ cell)
  column_cell low high =
      let r = ap (λ m. k * m + (i - m)) e ∙ by_place (λ k. k * side b + (i - side b)) (column_of b) (i - side b) (column_is b (i - side b) (omega arith)) in
      (small (k * n + (i - n)) (column_of b) (i - side b) r, r ∙ ap (λ l. get_or l k 0) (sym (at_column b i (omega arith) (omega arith))))

  pub box_cell_at : 2 * n ≤ i → i < 3 * side b →
      let x = ((i - 2 * n) / b.height * b.height + k / b.width) * n + ((i - 2 * n) % b.height * b.width + k % b.width) in
      (x < 256) × (x ≡ cell)
  box_cell_at low high =
      let j = i - 2 * side b in
      let r = ap (λ m. ((i - 2 * m) / b.height * b.height + k / b.width) * m + ((i - 2 * m) % b.height * b.width + k % b.width)) e ∙
      by_place (box_cell b j (omega arith)) (box_of b) j (box_is b j (omega arith)) in
      (small _ (box_of b) j r, r ∙ ap (λ l. get_or l k 0) (sym (at_box b i (omega arith) high)))
