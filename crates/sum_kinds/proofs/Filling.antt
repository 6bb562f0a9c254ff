-- The items of a sum, cell by cell and digit by digit.
use Rattle.std.proofs.Common.{◌≡◌, ℕ, zero, suc, ◌+◌, ◌*◌, ◌<◌, ◌≤◌, List, [], ◌∷◌, ◌++◌, map, length, get_or, drop, sym, refl, ap, ◌∙◌, append_assoc, append-nil, arith}
use Rattle.std.specs.List.{range_with_len}
use Rattle.std.proofs.lemmas.List.FromFn.{length-range_with_len}
use Rattle.std.proofs.lemmas.List.{drop_more, length-append, length-map, map-append}
use Rattle.arrayvec.specs.ArrayVec.{array_vec_len}
use Rattle.boards.specs.declared.board.Board.{Board}
use Rattle.boards.specs.Board.{side}
use Rattle.boards.specs.Atoms.{at, number}
use Rattle.places.proofs.Loops.{all_up_to, next_up_to, none_up_to, up_to}
use Rattle.meanings.specs.Sum.{cell_items, cell_weights}
use Rattle.meanings.proofs.Sums.{items_length}
use Rattle.sum_kinds.specs.declared.items.Items.{Items}
use Rattle.sum_kinds.specs.Items.{Longer}

-- The lists vs and ws were to come to the items, and now only us and xs are still to come.
module _ (before : Items) (vs ws : List ℕ) where
  abbrev pub ToCome : List ℕ → List ℕ → Items → Type 0
  ToCome us xs now = (now.variables.items ++ us ≡ before.variables.items ++ vs) × (now.weights.items ++ xs ≡ before.weights.items ++ ws)

  module _ (us xs : List ℕ) (now : Items) (to : ToCome us xs now) where
    all_come : us ≡ [] → xs ≡ [] → Longer before vs ws now
    all_come e f = (
      sym (append-nil now.variables.items) ∙ ap (λ l. now.variables.items ++ l) (sym e) ∙ to.0,
      sym (append-nil now.weights.items) ∙ ap (λ l. now.weights.items ++ l) (sym f) ∙ to.1,
    )

    some_come : (u x us' xs' : List ℕ) (next : Items) → us ≡ u ++ us' → xs ≡ x ++ xs' → Longer now u x next → ToCome us' xs' next
    some_come u x us' xs' next e f more = (
      ap (λ l. l ++ us') more.0 ∙ append_assoc now.variables.items u us' ∙ ap (λ l. now.variables.items ++ l) (sym e) ∙ to.0,
      ap (λ l. l ++ xs') more.1 ∙ append_assoc now.weights.items x xs' ∙ ap (λ l. now.weights.items ++ l) (sym f) ∙ to.1,
    )

    same_length : array_vec_len now.variables + length us ≡ array_vec_len before.variables + length vs
    same_length = omega (arith, ap length to.0, length-append now.variables.items us, length-append before.variables.items vs)

-- A loop that pushes, for each digit d from 1 to n, the variable f d with the weight g d.
module _ (f g : ℕ → ℕ) (n : ℕ) (before : Items) where
  -- those from d on are still to come
  abbrev pub DigitsToCome : ℕ → Items → Type 0
  DigitsToCome d now = ToCome before (map f (range_with_len 1 n)) (map g (range_with_len 1 n)) (map f (up_to n d)) (map g (up_to n d)) now

  pub pushing_starts : DigitsToCome 1 before
  pushing_starts = (ap (λ l. before.variables.items ++ map f l) (sym (all_up_to n)), ap (λ l. before.weights.items ++ map g l) (sym (all_up_to n)))

  module _ (d : ℕ) (now : Items) (to : DigitsToCome d now) where
    pub pushing_done : n < d → Longer before (map f (range_with_len 1 n)) (map g (range_with_len 1 n)) now
    pushing_done l =
        all_come before (map f (range_with_len 1 n)) (map g (range_with_len 1 n)) (map f (up_to n d)) (map g (up_to n d)) now to
        (ap (map f) (none_up_to n d l)) (ap (map g) (none_up_to n d l))

    module _ (l : d ≤ n) where
      pub pushing_room : array_vec_len before.variables + n ≤ 272 → array_vec_len now.variables < 272
      pushing_room h =
          omega (
            arith,
            same_length before (map f (range_with_len 1 n)) (map g (range_with_len 1 n)) (map f (up_to n d)) (map g (up_to n d)) now to,
            length-map (range_with_len 1 n) f,
            length-range_with_len 1 n,
            ap (λ r. length (map f r)) (next_up_to n d l),
          )

      pub pushing_more : (next : Items) → Longer now (f d ∷ []) (g d ∷ []) next → DigitsToCome (d + 1) next
      pushing_more next more =
          some_come before (map f (range_with_len 1 n)) (map g (range_with_len 1 n)) (map f (up_to n d)) (map g (up_to n d)) now to
          (f d ∷ []) (g d ∷ []) (map f (up_to n (d + 1))) (map g (up_to n (d + 1))) next
          (ap (map f) (next_up_to n d l)) (ap (map g) (next_up_to n d l)) more

-- the variables of a cell
cell_variables_are : (b : Board) (c a n : ℕ) → map (number b 0) (map (at c) (range_with_len a n)) ≡ map (λ d. c * side b + d) (range_with_len a n)
cell_variables_are b c a zero = refl
cell_variables_are b c a (suc n) = ap (λ l. (c * side b + a) ∷ l) (cell_variables_are b c (a + 1) n)

pub cell_named : (b : Board) (c n : ℕ) (before : Items) (ws : List ℕ) (now : Items) →
    Longer before (map (λ d. c * side b + d) (range_with_len 1 n)) ws now → Longer before (map (number b 0) (map (at c) (range_with_len 1 n))) ws now
cell_named b c n before ws now l = (l.0 ∙ ap (λ r. before.variables.items ++ r) (sym (cell_variables_are b c 1 n)), l.1)

-- the digits themselves
map_same : (a n : ℕ) → map (λ d. d) (range_with_len a n) ≡ range_with_len a n
map_same a zero = refl
map_same a (suc n) = ap (λ l. a ∷ l) (map_same (a + 1) n)

pub digits_named : (n : ℕ) (before : Items) (vs : List ℕ) (now : Items) → Longer before vs (map (λ d. d) (range_with_len 1 n)) now → Longer before vs (range_with_len 1 n) now
digits_named n before vs now l = (l.0, l.1 ∙ ap (λ r. before.weights.items ++ r) (map_same 1 n))

-- A loop over the cells cs: those from i on are still to come.
module _ (b : Board) (cs : List ℕ) (before : Items) where
  abbrev pub CellsToCome : ℕ → Items → Type 0
  CellsToCome i now =
      ToCome before (map (number b 0) (cell_items b cs)) (cell_weights b cs) (map (number b 0) (cell_items b (drop i cs))) (cell_weights b (drop i cs)) now

  module _ (i : ℕ) (now : Items) (to : CellsToCome i now) (l : i < length cs) where
    first : map (number b 0) (cell_items b (drop i cs)) ≡ map (number b 0) (map (at (get_or cs i 0)) (range_with_len 1 (side b))) ++ map (number b 0) (cell_items b (drop (i + 1) cs))
    first =
        ap (λ r. map (number b 0) (cell_items b r)) (drop_more cs i 0 l) ∙
        map-append (number b 0) (map (at (get_or cs i 0)) (range_with_len 1 (side b))) (cell_items b (drop (i + 1) cs))

    pub cells_room : array_vec_len before.variables + length cs * side b ≤ 272 → array_vec_len now.variables + side b ≤ 272
    cells_room h =
        let one = map (at (get_or cs i 0)) (range_with_len 1 (side b)) in
        omega (
          arith,
          same_length before (map (number b 0) (cell_items b cs)) (cell_weights b cs) (map (number b 0) (cell_items b (drop i cs))) (cell_weights b (drop i cs)) now to,
          length-map (cell_items b cs) (number b 0),
          items_length b cs,
          ap length first,
          length-append (map (number b 0) one) (map (number b 0) (cell_items b (drop (i + 1) cs))),
          length-map one (number b 0),
          length-map (range_with_len 1 (side b)) (at (get_or cs i 0)),
          length-range_with_len 1 (side b),
        )
