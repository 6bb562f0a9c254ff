-- What holds of each pair of cells in each row, column and box.
use Rattle.std.proofs.Common.{◌≡◌, ℕ, ◌/◌, ◌<◌, sym, refl, ◌∙◌, inl, inr, arith}
use Rattle.std.specs.List.{range_with_len, AllByRecursion as Each}
use Rattle.std.proofs.ByRecursion.{All-append, All-map}
use Rattle.std.proofs.lemmas.Nat.{mul-add-lt, div_below}
use Rattle.std.proofs.lemmas.Bool.{eq-eqb, eqb-true}
use Rattle.formulas.proofs.All.{all_counting_in, all_counting_out, all_left, all_map_out, all_right}
use Rattle.boards.specs.declared.board.Board.{Board}
use Rattle.boards.specs.Board.{box_of, cells, column_of, each_line, line, lines, pairs, row_of, side}
use Rattle.boards.proofs.Lines.{column_below, positive, row_below}
use Rattle.rules.specs.Grid.{Together}
use Rattle.rules.proofs.Lists.{pairs_in, pairs_out}

module _ (b : Board) where
  pub box_below : (c : ℕ) → c < cells b → box_of b c < side b
  box_below c l =
      let h = b.height in
      let w = b.width in
      let r = row_below b c l in
      let p = positive h w (row_of b c) r in
      mul-add-lt (row_of b c / h) h (column_of b c / w) w
      (div_below (row_of b c) h w p.0 (omega arith)) (div_below (column_of b c) w h p.1 (column_below b c l))

  module _ (P : ℕ × ℕ → Type 0) where
    module _ (of : ℕ → ℕ) where
      group_out : ((c : ℕ) → c < cells b → of c < side b) → Each (λ l. Each P (pairs l)) (each_line b of) →
          (p q : ℕ) → p < q → q < cells b → of p ≡ of q → P (p, q)
      group_out below h p q l u e =
          pairs_out _ P 0 (cells b)
          (all_counting_out _ 0 (side b) (all_map_out _ (line b of) (range_with_len 0 (side b)) h) (of p) (omega arith) (omega (arith, below p (omega arith))))
          p q (omega arith) l (omega arith) (eq-eqb (of p) (of p) refl) (eq-eqb (of q) (of p) (sym e))

      group_in : ((p q : ℕ) → p < q → q < cells b → of p ≡ of q → P (p, q)) → Each (λ l. Each P (pairs l)) (each_line b of)
      group_in h =
          All-map _ (line b of) (range_with_len 0 (side b)) (all_counting_in _ 0 (side b) (λ i _ _.
          pairs_in _ P 0 (cells b) (λ p q _ l u s t. h p q l (omega arith) (eqb-true (of p) i s ∙ sym (eqb-true (of q) i t)))))

    pub lines_out : Each (λ l. Each P (pairs l)) (lines b) → (p q : ℕ) → p < q → q < cells b → Together b p q → P (p, q)
    lines_out h p q l u together =
        let later = all_right _ (each_line b (row_of b)) _ h in
        elim together [
          | inl e ↦ group_out (row_of b) (row_below b) (all_left _ (each_line b (row_of b)) _ h) p q l u e
          | inr o ↦ elim o [
            | inl e ↦ group_out (column_of b) (column_below b) (all_left _ (each_line b (column_of b)) _ later) p q l u e
            | inr e ↦ group_out (box_of b) box_below (all_right _ (each_line b (column_of b)) _ later) p q l u e
          ]
        ]

    pub lines_in : ((p q : ℕ) → p < q → q < cells b → Together b p q → P (p, q)) → Each (λ l. Each P (pairs l)) (lines b)
    lines_in h =
        All-append _ (each_line b (row_of b)) _ (group_in (row_of b) (λ p q l u e. h p q l u (inl e)))
        (All-append _ (each_line b (column_of b)) _ (group_in (column_of b) (λ p q l u e. h p q l u (inr (inl e))))
        (group_in (box_of b) (λ p q l u e. h p q l u (inr (inr e)))))
