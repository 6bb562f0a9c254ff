use Rattle.std.proofs.Common.{length, sym, ap, arith}
use Rattle.sum_kinds.proofs.Parts.{cage_done, cage_few, cage_own_stopped, cage_refused, cage_sum_stopped}
use Rattle.sum_kinds.proofs.cage.CageKind.write.Goals as goal

pub push_cells-requires : goal.push_cells-requires
push_cells-requires g c =
    omega (arith, ap length c.none-items.ensures.0, cage_few c.args.board.now c.args.part.now.total c.args.part.now.body.now (sym c.in_ok-test.ensures))

pub returns-in_err-ready : goal.returns-in_err-ready
returns-in_err-ready g c =
    let tested = sym c.in_ok-test.ensures in
    let first = sym c.in_ok-check_first.ensures in
    cage_refused c.args.board.now c.args.part.now.total c.args.part.now.body.now tested g.T.Totaller.meaning g.P.Place c.args.first first c.none-items.result c.push_cells.new.items c.none-items.ensures c.push_cells.ensures
    c.as_slice-variables.result.now c.as_slice-weights.result.now c.as_slice-variables.ensures.value c.as_slice-weights.ensures.value
    c.args.place.now _ c.in_err-ready.ensures c.from_residual-in_err-ready.result c.from_residual-in_err-ready.ensures.1

pub returns-in_err-write_no_repeat : goal.returns-in_err-write_no_repeat
returns-in_err-write_no_repeat g c =
    let tested = sym c.in_ok-test.ensures in
    let first = sym c.in_ok-check_first.ensures in
    cage_own_stopped c.args.board.now c.args.part.now.total c.args.part.now.body.now tested g.T.Totaller.meaning g.P.Place c.args.first first c.none-items.result c.push_cells.new.items c.none-items.ensures c.push_cells.ensures
    c.as_slice-variables.result.now c.as_slice-weights.result.now c.as_slice-variables.ensures.value c.as_slice-weights.ensures.value
    c.in_ok-ready.ensures.0 c.args.place.now c.write_no_repeat.new.place _ c.in_err-write_no_repeat.ensures c.from_residual-in_err-write_no_repeat.result c.from_residual-in_err-write_no_repeat.ensures.1

pub returns-in_err-fresh : goal.returns-in_err-fresh
returns-in_err-fresh g c =
    let tested = sym c.in_ok-test.ensures in
    let first = sym c.in_ok-check_first.ensures in
    cage_sum_stopped c.args.board.now c.args.part.now.total c.args.part.now.body.now tested g.T.Totaller.meaning g.P.Place c.args.first first c.none-items.result c.push_cells.new.items c.none-items.ensures c.push_cells.ensures
    c.as_slice-variables.result.now c.as_slice-weights.result.now c.as_slice-variables.ensures.value c.as_slice-weights.ensures.value
    c.in_ok-ready.ensures.0 c.args.place.now c.write_no_repeat.new.place c.in_ok-write_no_repeat.ensures c.write.new.place _ c.in_err-fresh.ensures c.from_residual-in_err-fresh.result c.from_residual-in_err-fresh.ensures.1

pub returns : goal.returns
returns g c =
    let tested = sym c.in_ok-test.ensures in
    let first = sym c.in_ok-check_first.ensures in
    cage_done c.args.board.now c.args.part.now.total c.args.part.now.body.now tested g.T.Totaller.meaning g.P.Place c.args.first first c.none-items.result c.push_cells.new.items c.none-items.ensures c.push_cells.ensures
    c.as_slice-variables.result.now c.as_slice-weights.result.now c.as_slice-variables.ensures.value c.as_slice-weights.ensures.value
    c.in_ok-ready.ensures.0 c.args.place.now c.write_no_repeat.new.place c.in_ok-write_no_repeat.ensures c.write.new.place c.in_ok-fresh.fresh c.in_ok-fresh.ensures
