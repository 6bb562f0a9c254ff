use Rattle.std.proofs.Common.{◌*◌, length, sym, ap, arith}
use Rattle.formulas.proofs.Lists.{rest_is}
use Rattle.boards.specs.Board.{side}
use Rattle.sum_kinds.proofs.Parts.{arrow_done, arrow_ended, arrow_few, arrow_pushed}
use Rattle.sum_kinds.proofs.arrow.ArrowKind.write.Goals as goal

pub push_cells-requires : goal.push_cells-requires
push_cells-requires g c =
    let b = c.args.board.now in
    let body = c.args.part.now.body.now in
    omega (arith, ap length c.none-items.ensures.0, ap (λ l. length l * side b) (rest_is body 1), arrow_few b c.args.part.now.total body (sym c.in_ok-test.ensures))

pub push_circle-requires : goal.push_circle-requires
push_circle-requires g c =
    let b = c.args.board.now in
    let body = c.args.part.now.body.now in
    omega (arith, ap length c.none-items.ensures.0, arrow_pushed b c.none-items.result c.push_cells.new.items _ c.push_cells.ensures, ap (λ l. length l * side b) (rest_is body 1), arrow_few b c.args.part.now.total body (sym c.in_ok-test.ensures))

pub returns-in_err-fresh : goal.returns-in_err-fresh
returns-in_err-fresh g c =
    let body = c.args.part.now.body.now in
    let tested = sym c.in_ok-test.ensures in
    let first = sym c.in_ok-check_first.ensures in
    arrow_ended c.args.board.now c.args.part.now.total body tested g.T.Totaller.meaning g.P.Place c.args.first first c.none-items.result c.push_cells.new.items c.push_circle.new.items c.none-items.ensures
    _ (rest_is body 1) c.push_cells.ensures c.push_circle.ensures
    c.as_slice-variables.result.now c.as_slice-weights.result.now c.as_slice-variables.ensures.value c.as_slice-weights.ensures.value c.side-target.result c.side-target.ensures.value
    c.args.place.now c.write.new.place _ c.in_err-fresh.ensures c.from_residual-in_err-fresh.result c.from_residual-in_err-fresh.ensures.1

pub returns : goal.returns
returns g c =
    let body = c.args.part.now.body.now in
    let tested = sym c.in_ok-test.ensures in
    let first = sym c.in_ok-check_first.ensures in
    arrow_done c.args.board.now c.args.part.now.total body tested g.T.Totaller.meaning g.P.Place c.args.first first c.none-items.result c.push_cells.new.items c.push_circle.new.items c.none-items.ensures
    _ (rest_is body 1) c.push_cells.ensures c.push_circle.ensures
    c.as_slice-variables.result.now c.as_slice-weights.result.now c.as_slice-variables.ensures.value c.as_slice-weights.ensures.value c.side-target.result c.side-target.ensures.value
    c.args.place.now c.write.new.place c.in_ok-fresh.fresh c.in_ok-fresh.ensures
