-- A grid is read off bytes just where their cells show that grid; and reading one cell after another.
use Rattle.std.proofs.Common.{◌≡◌, ℕ, zero, suc, ◌+◌, ◌<◌, ◌≤◌, Bool, List, [], ◌∷◌, ◌++◌, length, get_or, pos, Ok, Err, Result, sym, refl, ap, ◌∙◌, subst, ap₂, not-suc-le-zero, add-zero, zero-add, add-one, arith}
use Rattle.std.specs.List.{range_with_len}
use Rattle.std.proofs.ByRecursion.{All-from_get_or}
use Rattle.boards.specs.declared.board.Board.{Board}
use Rattle.boards.specs.Board.{cells, side}
use Rattle.boards.specs.Atoms.{Atom, at, cell_variables, number}
use Rattle.rules.specs.Grid.{Digit, Grid}
use Rattle.rules.specs.Model.{true_in}
use Rattle.rules.specs.Reading.{marked, read_cells, read_off, with_cell}
use Rattle.rules.proofs.Base.{Agrees, digit_at}
use Rattle.rules.proofs.Marks.{Only, one_kept, one_told}

-- what the bytes say of each variable, where the fresh ones follow the cells'
abbrev pub shown_by : Board → List ℕ → Atom → Bool
shown_by b m a = true_in m (pos (number b (cell_variables b) a))

with_cell_out : (c : ℕ) (ds : List ℕ) (later : Result (List ℕ) ℕ) (g : List ℕ) → with_cell c ds later ≡ Ok g →
    (d : ℕ) × (h : List ℕ) × (ds ≡ d ∷ []) × (later ≡ Ok h) × (g ≡ d ∷ h)
with_cell_out c [] later g e = absurd (grind arith)
with_cell_out c (d ∷ []) (Ok h) g e = (d, h, refl, refl, grind arith)
with_cell_out c (d ∷ []) (Err x) g e = absurd (grind arith)
with_cell_out c (d ∷ f ∷ ds) later g e = absurd (grind arith)

module _ (b : Board) (m : List ℕ) where
  read_out : (a n : ℕ) (g : List ℕ) → read_cells b m (range_with_len a n) ≡ Ok g →
      (length g ≡ n) × ((k : ℕ) → k < n → marked b m (a + k) ≡ get_or g k 0 ∷ [])
  read_out a zero g e = (let f : [] ≡ g = cc in ap length (sym f), λ k l. absurd (not-suc-le-zero l))
  read_out a (suc n) g e =
      let (d, h, p, q, r) = with_cell_out a (marked b m a) (read_cells b m (range_with_len (a + 1) n)) g e in
      let (s, t) = read_out (a + 1) n h q in
      (ap length r ∙ ap suc s, λ k l. subst (λ x. marked b m (a + k) ≡ get_or x k 0 ∷ []) (sym r) (each d h p t k l))
    where
      each : (d : ℕ) (h : List ℕ) → marked b m a ≡ d ∷ [] → ((k : ℕ) → k < n → marked b m (a + 1 + k) ≡ get_or h k 0 ∷ []) →
          (k : ℕ) → k < suc n → marked b m (a + k) ≡ get_or (d ∷ h) k 0 ∷ []
      each d h p t zero l = rw add-zero p
      each d h p t (suc k) l = let e : a + suc k ≡ a + 1 + k = omega arith in rw e (t k (omega arith))

  read_in : (a n : ℕ) (g : List ℕ) → length g ≡ n → ((k : ℕ) → k < n → marked b m (a + k) ≡ get_or g k 0 ∷ []) →
      read_cells b m (range_with_len a n) ≡ Ok g
  read_in a zero [] e h = refl
  read_in a zero (d ∷ g) e h = absurd (omega arith)
  read_in a (suc n) [] e h = absurd (omega arith)
  read_in a (suc n) (d ∷ g) e h =
      let p : marked b m a ≡ d ∷ [] = rw add-zero at (h 0 (omega arith)) in
      let r = read_in (a + 1) n g (omega arith) (λ k l. let f : a + 1 + k ≡ a + suc k = omega arith in rw f (h (suc k) (omega arith))) in
      ap₂ (with_cell a) p r

  pub read_shows : (g : List ℕ) → read_off b m ≡ Ok g → Grid b g × Agrees b (shown_by b m) g
  read_shows g e =
      let (s, t) = read_out 0 (cells b) g e in
      let one : (c : ℕ) → c < cells b → (1 ≤ get_or g c 0) × (get_or g c 0 < 1 + side b) × Only (λ d. shown_by b m (at c d)) 1 (side b) (get_or g c 0)
      = λ c l. one_told (λ d. shown_by b m (at c d)) 1 (side b) (get_or g c 0) (rw zero-add at (t c l)) in (
        record { size = s; digits = All-from_get_or (Digit b) g 0 (λ c l. let o = one c (omega arith) in (o.0, omega arith)) },
        λ c d l i. (one c l).2 d i.0 (omega arith),
      )

  pub shows_read : (g : List ℕ) → Grid b g → Agrees b (shown_by b m) g → read_off b m ≡ Ok g
  shows_read g G s =
      read_in 0 (cells b) g G.size (λ c l.
      let i = digit_at b g G c l in
      rw zero-add (one_kept (λ d. shown_by b m (at c d)) 1 (side b) (get_or g c 0) i.0 (omega arith) (λ x low high. s c x l (low, omega arith))))

  abbrev pushed : ℕ → List ℕ → Result (List ℕ) ℕ
  pushed d g = Ok (g ++ d ∷ [])

  read_push : (a n : ℕ) (g : List ℕ) (d : ℕ) → read_cells b m (range_with_len a n) ≡ Ok g → marked b m (a + n) ≡ d ∷ [] →
      read_cells b m (range_with_len a (suc n)) ≡ pushed d g
  read_push a zero g d e h =
      let p : marked b m a ≡ d ∷ [] = rw add-zero at h in
      let f : [] ≡ g = cc in
      ap (λ ds. with_cell a ds (Ok [])) p ∙ ap (pushed d) f
  read_push a (suc n) g d e h =
      let (x, k, p, q, r) = with_cell_out a (marked b m a) (read_cells b m (range_with_len (a + 1) n)) g e in
      let s : a + suc n ≡ a + 1 + n = omega arith in
      let ih = read_push (a + 1) n k d q (rw s at h) in
      ap₂ (with_cell a) p ih ∙ ap (pushed d) (sym r)

  not_one : (c : ℕ) (ds : List ℕ) (later : Result (List ℕ) ℕ) → (length ds ≡ 1 → ⊥) → with_cell c ds later ≡ Err c
  not_one c [] later h = refl
  not_one c (d ∷ []) later h = absurd (h refl)
  not_one c (d ∷ e ∷ ds) later h = refl

  read_stop : (a n k : ℕ) (g : List ℕ) → k < n → read_cells b m (range_with_len a k) ≡ Ok g → (length (marked b m (a + k)) ≡ 1 → ⊥) →
      read_cells b m (range_with_len a n) ≡ Err (a + k)
  read_stop a zero k g l e h = absurd (omega arith)
  read_stop a (suc n) zero g l e h =
      let z : a + 0 ≡ a = omega arith in
      rw z (not_one a (marked b m a) (read_cells b m (range_with_len (a + 1) n)) (λ q. h (rw z q)))
  read_stop a (suc n) (suc k) g l e h =
      let (x, g', p, q, r) = with_cell_out a (marked b m a) (read_cells b m (range_with_len (a + 1) k)) g e in
      let s : a + suc k ≡ a + 1 + k = omega arith in
      let ih = read_stop (a + 1) n k g' (omega arith) q (rw s at h) in
      rw s (ap₂ (with_cell a) p ih)

  -- one more cell is read
  pub read_more : (c : ℕ) (g : List ℕ) (d : ℕ) → read_cells b m (range_with_len 0 c) ≡ Ok g → marked b m c ≡ d ∷ [] →
      read_cells b m (range_with_len 0 (c + 1)) ≡ Ok (g ++ d ∷ [])
  read_more c g d e h = rw add-one (read_push 0 c g d e (rw zero-add h))

  -- the first cell that does not have one digit is refused
  pub read_stops : (c : ℕ) (g : List ℕ) → c < cells b → read_cells b m (range_with_len 0 c) ≡ Ok g → (length (marked b m c) ≡ 1 → ⊥) → read_off b m ≡ Err c
  read_stops c g l e h = rw zero-add at (read_stop 0 (cells b) c g l e (rw zero-add h))
