-- A board under sound rules keeps the promise about counting.
use Rattle.std.proofs.Common.{◌≡◌, ℕ, ◌+◌, ◌-◌, ◌*◌, ◌/◌, ◌%◌, ◌<◌, ◌≤◌, Bool, true, false, cond, eqb, List, ◌++◌, map, length, get_or, Ok, sym, refl, ap, ◌∙◌, ap₂, inl, inr, arith}
use Rattle.std.specs.List.{range_with_len, AllByRecursion as Each}
use Rattle.std.proofs.lemmas.Nat.{div-add-mod', div_below, div-mul-add, mod_below, mod-mul-add, mul-add-lt}
use Rattle.std.proofs.lemmas.List.FromFn.{get_or-map-range_with_len, length-map-range_with_len}
use Rattle.std.proofs.ByRecursion.{All-append, All-from_get_or, All-map}
use Rattle.std.proofs.lemmas.List.{ext_get_or, get_or_append_left, get_or-append_right, get_or-map, length-append, length-map}
use Rattle.std.proofs.lemmas.Bool.{cases_lt}
use Rattle.std.proofs.lemmas.Bool.Decides.{nat_tests}
use Rattle.formulas.specs.Formula.{Holds, under}
use Rattle.formulas.proofs.All.{holds_both, holds_left, holds_right}
use Rattle.boards.specs.declared.board.Board.{Board}
use Rattle.boards.specs.Board.{cells, side}
use Rattle.boards.specs.Atoms.{cell_variables}
use Rattle.boards.specs.Base.{base, clauses_of}
use Rattle.boards.proofs.Lines.{positive}
use Rattle.rules.specs.Clauses.{rule_clauses}
use Rattle.rules.specs.Grid.{Grid}
use Rattle.rules.specs.Model.{Model, true_in}
use Rattle.rules.specs.Promise.{Solves, Stands}
use Rattle.rules.specs.Reading.{read_off}
use Rattle.rules.specs.Rule.{Rule, Sound}
use Rattle.rules.proofs.Base.{Agrees, base_clean, base_contained, base_grid, base_holds}
use Rattle.rules.proofs.Counted.{clauses_sized, clauses_upto}
use Rattle.rules.proofs.Reading.{read_shows, shown_by, shows_read}
use Rattle.rules.proofs.Rules.{found, HasFresh, keeps_all, same_fresh, Showing}
use Rattle.rules.proofs.Truth.{numbered_in, numbered_out, small}

abbrev byte : Bool → ℕ
byte t = cond t 1 0

byte_small : (t : Bool) → byte t ≤ 1
byte_small true = omega arith
byte_small false = omega arith

byte_is : (t : Bool) → eqb (byte t) 1 ≡ t
byte_is true = refl
byte_is false = refl

same_byte : (x y : ℕ) → x ≤ 1 → y ≤ 1 → eqb x 1 ≡ eqb y 1 → x ≡ y
same_byte x y l k e = grind (arith, nat_tests)

-- cells by their bytes
module _ (b : Board) (g : List ℕ) where
  abbrev n : ℕ
  n = side b

  abbrev v : ℕ
  v = cell_variables b

  -- what the byte k is where the cells show g
  abbrev hot : ℕ → Bool
  hot k = eqb (get_or g (k / n) 0) (k % n + 1)

  cell_byte : (m : List ℕ) → Agrees b (shown_by b m) g → (k : ℕ) → k < v → eqb (get_or m k 0) 1 ≡ hot k
  cell_byte m s k l =
      let p = positive (cells b) n k l in
      let c : k / n < cells b = div_below k n (cells b) p.1 l in
      let d = mod_below k n p.1 in
      let e : k / n * n + (k % n + 1) - 1 ≡ k = omega (arith, div-add-mod' k n) in
      ap (λ i. eqb (get_or m i 0) 1) (sym e) ∙ s (k / n) (k % n + 1) c (omega arith, omega arith)

  -- the bytes of a grid: those of the cells, and then those of the fresh variables
  abbrev cell_bytes : List ℕ
  cell_bytes = map (λ k. byte (hot k)) (range_with_len 0 v)

  module _ (fs : List Bool) where
    abbrev model_of : List ℕ
    model_of = cell_bytes ++ map byte fs

    model_agrees : Agrees b (shown_by b model_of) g
    model_agrees c d l i =
        let k = c * n + (d - 1) in
        let e : c * n + d - 1 ≡ k = omega arith in
        let u : k < v = omega (arith, mul-add-lt c n (d - 1) (cells b) l (omega arith)) in
        let q : k / n ≡ c = div-mul-add c n (d - 1) (omega arith) in
        let r : k % n ≡ d - 1 = mod-mul-add c n (d - 1) (omega arith) in
        let f : d - 1 + 1 ≡ d = omega arith in
        let x = get_or_append_left cell_bytes (map byte fs) 0 k (omega (arith, length-map-range_with_len (λ k. byte (hot k)) 0 v)) in
        let y = get_or-map-range_with_len (λ k. byte (hot k)) 0 v k k 0 u (omega arith) in
        ap (λ i. eqb (get_or model_of i 0) 1) e ∙ ap (λ x. eqb x 1) (x ∙ y) ∙ byte_is (hot k) ∙
        ap₂ (λ i j. eqb (get_or g i 0) j) q (ap (λ j. j + 1) r ∙ f)

    model_fresh : HasFresh model_of v (length fs) fs
    model_fresh j l =
        let e : v + 1 + j - 1 ≡ v + j = omega arith in
        let d : v + j - v ≡ j = omega arith in
        ap (λ i. eqb (get_or model_of i 0) 1) e ∙
        ap (λ x. eqb x 1) (get_or-append_right cell_bytes (map byte fs) v (v + j) 0 (length-map-range_with_len _ 0 v) (omega arith) ∙
        ap (λ i. get_or (map byte fs) i 0) d ∙ get_or-map byte fs j false 0 l) ∙
        byte_is (get_or fs j false)

    model_bytes : Each (λ x. x ≤ 1) model_of
    model_bytes =
        All-append _ cell_bytes _
        (All-map _ (λ k. byte (hot k)) (range_with_len 0 v) (All-from_get_or _ _ 0 (λ i l. byte_small _)))
        (All-map _ byte fs (All-from_get_or _ fs false (λ i l. byte_small _)))

    model_size : length model_of ≡ v + length fs
    model_size = length-append cell_bytes (map byte fs) ∙ ap₂ ◌+◌ (length-map-range_with_len _ 0 v) (length-map fs byte)

module _ (b : Board) (rs : List Rule) (S : Each (Sound b) rs) where
  base_of : (m : List ℕ) → Model b rs m → Holds (under (shown_by b m)) (base b)
  base_of m M =
      numbered_out m M.bytes b (cell_variables b) 0 (shown_by b m) (λ a i. refl) (base b) (base_contained b 0)
      (holds_left (true_in m) (clauses_of b (base b)) _ M.holds)

  rules_of : (m : List ℕ) → Model b rs m → Holds (true_in m) (rule_clauses b (cell_variables b) rs)
  rules_of m M = holds_right (true_in m) (clauses_of b (base b)) _ M.holds

  reads : (m : List ℕ) → Model b rs m → (g : List ℕ) × Grid b g × (read_off b m ≡ Ok g)
  reads m M = let (g, G, s) = base_grid b (shown_by b m) (base_of m M) in (g, G, shows_read b m g G s)

  solves : (m g : List ℕ) → Model b rs m → read_off b m ≡ Ok g → Solves b rs g
  solves m g M e =
      let (G, s) = read_shows b m g e in
      let clean = base_clean b (shown_by b m) g G s (base_of m M) in
      record { clean = clean; keeps = keeps_all b g G clean m (record { bytes = M.bytes; agrees = s }) (cell_variables b) rs S (rules_of m M) }

  same : (m m' g : List ℕ) → Model b rs m → Model b rs m' → read_off b m ≡ Ok g → read_off b m' ≡ Ok g → m ≡ m'
  same m m' g M M' e e' =
      let (G, s) = read_shows b m g e in
      let (G', s') = read_shows b m' g e' in
      let clean = base_clean b (shown_by b m) g G s (base_of m M) in
      let v = cell_variables b in
      ext_get_or 0 m m' (M.size ∙ sym M'.size) (λ k l. same_byte (get_or m k 0) (get_or m' k 0) (small m M.bytes k) (small m' M'.bytes k)
      (elim (cases_lt k v) [
        | inl low ↦ cell_byte b g m s k low ∙ sym (cell_byte b g m' s' k low)
        | inr high ↦
            let i : v + 1 + (k - v) - 1 ≡ k = omega arith in
            rw i at (same_fresh b g G clean m m' (record { bytes = M.bytes; agrees = s }) (record { bytes = M'.bytes; agrees = s' }) v rs S
            (rules_of m M) (rules_of m' M') (k - v) (omega (arith, M.size)))
      ]))

  model_found : (g : List ℕ) → Grid b g → Solves b rs g → (m : List ℕ) × Model b rs m × (read_off b m ≡ Ok g)
  model_found g G s =
      let v = cell_variables b in
      let (fs, F) = found b g G s.clean v rs S s.keeps in
      let m = model_of b g fs in
      let shows : Showing b g m = record { bytes = model_bytes b g fs; agrees = model_agrees b g fs } in
      let e = F.size in (
        m,
        record {
          size = model_size b g fs ∙ ap (λ k. v + k) e;
          bytes = model_bytes b g fs;
          holds = holds_both (true_in m) (clauses_of b (base b)) (rule_clauses b v rs)
              (numbered_in m (model_bytes b g fs) b v 0 (shown_by b m) (λ a i. refl) (base b) (base_contained b 0)
              (base_holds b (shown_by b m) g G (model_agrees b g fs) s.clean))
              (F.holds m shows (λ j l. model_fresh b g fs j (omega arith)));
        },
        shows_read b m g G (model_agrees b g fs),
      )

  pub stands : Stands b rs
  stands = record {
    sized = clauses_sized b rs S;
    counted = clauses_upto b rs S;
    reads = reads;
    same = λ m m' M M'. (ap (read_off b), λ e. let (g, G, r) = reads m M in same m m' g M M' r (sym e ∙ r));
    shown = λ g G. (λ k. solves k.0 g k.1 k.2, model_found g G);
  }
