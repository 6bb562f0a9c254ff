-- An arrow keeps its law.
use Rattle.std.proofs.Common.{◌≡◌, ℕ, ◌+◌, ◌-◌, ◌*◌, ◌<◌, ◌≤◌, eqb, List, map, length, get_or, sym, ◌∙◌, ap₂, inl, inr, arith}
use Rattle.std.specs.List.{range_with_len, AllByRecursion as Each}
use Rattle.std.proofs.lemmas.List.FromFn.{length-map-range_with_len}
use Rattle.std.proofs.ByRecursion.{All-append, All-drop, All-get_or, All-map}
use Rattle.std.proofs.lemmas.List.{length-append}
use Rattle.std.proofs.lemmas.Bool.{cases_lt, eq-eqb, eqb-true}
use Rattle.formulas.proofs.All.{all_counting_in}
use Rattle.totals.specs.Totaller.{total, Weight}
use Rattle.totallers.proofs.Faultless.{both_none}
use Rattle.boards.specs.declared.board.Board.{Board}
use Rattle.boards.specs.Board.{cells, side}
use Rattle.boards.specs.Atoms.{at}
use Rattle.rules.specs.Grid.{Grid}
use Rattle.rules.specs.Rule.{Inside}
use Rattle.rules.proofs.Base.{digit_at}
use Rattle.parts.specs.Tests.{cell_fault, length_fault}
use Rattle.meanings.specs.Kind.{Lawful}
use Rattle.meanings.specs.Sum.{cell_items, cell_weights, digit_sum}
use Rattle.meanings.specs.Arrow.{arrow, arrow_items, arrow_weights, circle, shaft}
use Rattle.meanings.proofs.Faults.{cells_on, length_between}
use Rattle.meanings.proofs.Sums.{digits_fit, digits_inside, fresh_fit, hot, items_inside, items_length, none_counted, one_counted, sum_sound, taken, total_both, total_cell, total_digits, weights_length, weights_small}

module _ (b : Board) (body : List ℕ) where
  -- what a digit in the circle weighs
  abbrev lacks : ℕ → ℕ
  lacks d = side b - d

  pub arrow_items_length : length (arrow_items b body) ≡ length (shaft body) * side b + (side b - 1)
  arrow_items_length =
      omega (
        arith,
        length-append (cell_items b (shaft body)) (map (at (circle body)) (range_with_len 1 (side b - 1))),
        items_length b (shaft body),
        length-map-range_with_len (at (circle body)) 1 (side b - 1),
      )

  pub arrow_weights_length : length (arrow_weights b body) ≡ length (shaft body) * side b + (side b - 1)
  arrow_weights_length =
      omega (
        arith,
        length-append (cell_weights b (shaft body)) (map lacks (range_with_len 1 (side b - 1))),
        weights_length b (shaft body),
        length-map-range_with_len lacks 1 (side b - 1),
      )

  pub arrow_weights_small : side b ≤ 15 → Each Weight (arrow_weights b body)
  arrow_weights_small small =
      All-append Weight (cell_weights b (shaft body)) _ (weights_small b small (shaft body))
      (All-map Weight lacks (range_with_len 1 (side b - 1)) (all_counting_in _ 1 (side b - 1) (λ d low high. omega (arith, b.small))))

  module _ (some : 1 ≤ length body) (on : Each (λ c. c < cells b) body) where
    pub circle_on : circle body < cells b
    circle_on = All-get_or (λ c. c < cells b) body 0 0 some on

    pub shaft_on : Each (λ c. c < cells b) (shaft body)
    shaft_on = All-drop (λ c. c < cells b) 1 body on

    -- each item is a cell with a digit
    pub arrow_items_inside : Each (Inside b 0) (arrow_items b body)
    arrow_items_inside =
        All-append (Inside b 0) (cell_items b (shaft body)) _ (items_inside b (shaft body) shaft_on)
        (digits_inside b (circle body) (side b - 1) circle_on (omega arith))

    module _ (g : List ℕ) (G : Grid b g) where
      total_circle : total (map lacks (range_with_len 1 (side b - 1))) (hot g (map (at (circle body)) (range_with_len 1 (side b - 1)))) ≡ lacks (get_or g (circle body) 0)
      total_circle =
          let x = get_or g (circle body) 0 in
          let n = side b - 1 in
          let i = digit_at b g G (circle body) circle_on in
          total_cell g lacks (circle body) 1 n ∙
          elim (cases_lt x (side b)) [
            | inl l ↦ one_counted lacks x 1 n i.0 (omega arith)
            | inr l ↦ let z : 0 ≡ lacks x = omega arith in none_counted lacks x 1 n (λ d low high e. omega arith) ∙ z
          ]

      total_arrow : total (arrow_weights b body) (hot g (arrow_items b body)) ≡ digit_sum g (shaft body) + lacks (get_or g (circle body) 0)
      total_arrow =
          total_both g (cell_weights b (shaft body)) (map lacks (range_with_len 1 (side b - 1))) (cell_items b (shaft body)) (map (at (circle body)) (range_with_len 1 (side b - 1)))
          (items_length b (shaft body) ∙ sym (weights_length b (shaft body))) ∙
          ap₂ ◌+◌ (total_digits b g G (shaft body) shaft_on) total_circle

pub arrow_lawful : Lawful arrow
arrow_lawful = record {
  sound = λ 𝓣 T b total body f right ready.
      let parts = both_none (length_fault 2 (side b + 1) body) _ right in
      let some = (length_between 2 (side b + 1) body parts.0).0 in
      let on = cells_on b body (both_none (cell_fault b body) _ parts.1).0 in
      let ws = arrow_weights b body in
      sum_sound 𝓣 b (arrow_items b body) ws (side b) (λ g. eqb (digit_sum g (shaft body)) (get_or g (circle body) 0))
      (arrow_items_inside b body (omega arith) on) (arrow_items_length b body ∙ sym (arrow_weights_length b body))
      (T.sound ws (side b) (arrow_weights_small b body (digits_fit 𝓣 b ws (side b) f ready)) (taken 𝓣 b ws (side b) f ready))
      (λ g G.
      let d = digit_at b g G (circle body) (circle_on b body (omega arith) on) in
      let e = total_arrow b body (omega arith) on g G in (
        λ h. eq-eqb (digit_sum g (shaft body)) (get_or g (circle body) 0) (omega arith),
        λ h. let q = eqb-true (digit_sum g (shaft body)) (get_or g (circle body) 0) h in omega arith,
      ));
  fits = λ 𝓣 b total body f ready some. fresh_fit 𝓣 b (arrow_weights b body) (side b) f ready some;
}
