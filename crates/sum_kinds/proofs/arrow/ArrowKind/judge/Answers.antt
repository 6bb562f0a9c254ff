use Rattle.std.proofs.Common.{◌<◌, eqb, length, get_or, sym, ap, ◌∙◌, subst}
use Rattle.std.specs.List.{AllByRecursion as Each}
use Rattle.std.specs.Option.{option_or}
use Rattle.std.proofs.ByRecursion.{All-drop}
use Rattle.std.proofs.lemmas.List.Elements.{All-from_recursion}
use Rattle.formulas.proofs.Lists.{rest_is}
use Rattle.parts.specs.Tests.{grid_fault}
use Rattle.meanings.specs.Sum.{digit_sum}
use Rattle.kinds.proofs.Judging.{cells_in}
use Rattle.sum_kinds.proofs.Judgements.{digit_sum_is}
use Rattle.sum_kinds.proofs.Parts.{arrow_cells}
use Rattle.sum_kinds.proofs.arrow.ArrowKind.judge.Goals as goal

pub sum_digits-requires-clause-cells : goal.sum_digits-requires-clause-cells
sum_digits-requires-clause-cells c =
    let b = c.args.board.now in
    let body = c.args.part.now.body.now in
    let g = c.args.grid.now in
    let on = λ (k : _). k < length g in
    let in_grid = cells_in b g body (sym c.in_ok-check_grid.ensures) (arrow_cells b c.args.part.now.total body (sym c.in_ok-test.ensures)) in
    All-from_recursion on _ (subst (Each on) (sym (rest_is body 1)) (All-drop on 1 body in_grid))

pub returns : goal.returns
returns c =
    let g = c.args.grid.now in
    let body = c.args.part.now.body.now in (
      ap (λ o. option_or o (grid_fault c.args.board.now g)) (sym c.in_ok-test.ensures) ∙ sym c.in_ok-check_grid.ensures,
      ap (λ n. eqb n (get_or g (get_or body 0 0) 0)) (c.sum_digits.ensures ∙ sym (digit_sum_is g _) ∙ ap (digit_sum g) (rest_is body 1)),
    )
