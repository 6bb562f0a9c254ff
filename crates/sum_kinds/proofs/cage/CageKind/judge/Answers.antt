use Rattle.std.proofs.Common.{◌<◌, length, sym}
use Rattle.std.proofs.lemmas.List.Elements.{All-from_recursion}
use Rattle.kinds.proofs.Judging.{cells_in}
use Rattle.sum_kinds.proofs.Parts.{cage_cells}
use Rattle.sum_kinds.proofs.cage.CageKind.judge.Goals as goal

pub digits_differ-requires : goal.digits_differ-requires
digits_differ-requires c =
    cells_in c.args.board.now c.args.grid.now c.args.part.now.body.now (sym c.in_ok-check_grid.ensures)
    (cage_cells c.args.board.now c.args.part.now.total c.args.part.now.body.now (sym c.in_ok-test.ensures))

pub sum_digits-requires-clause-cells : goal.sum_digits-requires-clause-cells
sum_digits-requires-clause-cells c =
    let body = c.args.part.now.body.now in
    All-from_recursion (λ k. k < length c.args.grid.now) body (cells_in c.args.board.now c.args.grid.now body (sym c.in_ok-check_grid.ensures)
    (cage_cells c.args.board.now c.args.part.now.total body (sym c.in_ok-test.ensures)))
