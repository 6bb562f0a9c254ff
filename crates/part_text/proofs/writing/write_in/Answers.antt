use Rattle.std.proofs.Common.{◌≡◌, ◌+◌, ◌*◌, ◌≤◌, length, ap, ◌∙◌, ap₂, mul-le-mul, arith, rules}
use Rattle.boards.specs.Atoms.{cell_variables}
use Rattle.clause_text.specs.Writing.{cnf}
use Rattle.part_text.proofs.Parts.{base_fits, base_written, failed, few_variables, success}
use Rattle.part_text.proofs.writing.write_in.Goals as goal

pub returns-in_err-fresh : goal.returns-in_err-fresh
returns-in_err-fresh g c =
    let b = c.args.board.now in
    let n : c.cells.result * c.side.result ≡ cell_variables b = ap₂ ◌*◌ c.cells.ensures.value c.side.ensures.value in
    let base = base_written b c.open-place.result c.write_base.new.place c.write_base.result c.write_base.ensures c.in_ok-map_err.field-0 (λ e none. none) c.in_ok-map_err.ensures.cases in
    failed g.K.Kind.meaning g.T.Totaller.meaning g.met.K.Kind.lawful b c.args.part.now.total c.args.part.now.body.now
    c.open-place.result c.write_base.new.place c.write.new.place (length c.args.room.now) (c.cells.result * c.side.result + 1)
    c.open-place.ensures.holds c.open-place.ensures.room base (ap (λ k. k + 1) n) c.write.result c.write.ensures
    c.in_err-fresh.field-0.0 (λ e k. search rules) c.in_err-fresh.ensures.cases c.from_residual-in_err-fresh.result c.from_residual-in_err-fresh.ensures.1

pub overflow_add-cell_variables-2 : goal.overflow_add-cell_variables-2
overflow_add-cell_variables-2 g c =
    let b = c.args.board.now in
    let n : c.cells.result * c.side.result ≡ cell_variables b = ap₂ ◌*◌ c.cells.ensures.value c.side.ensures.value in
    let base = base_written b c.open-place.result c.write_base.new.place c.write_base.result c.write_base.ensures c.in_ok-map_err.field-0 (λ e none. none) c.in_ok-map_err.ensures.cases in
    let s =
    success g.K.Kind.meaning g.T.Totaller.meaning g.met.K.Kind.lawful b c.args.part.now.total c.args.part.now.body.now
    c.open-place.result c.write_base.new.place c.write.new.place (length c.args.room.now) (c.cells.result * c.side.result + 1)
    c.open-place.ensures.holds c.open-place.ensures.room base (ap (λ k. k + 1) n) c.write.result c.write.ensures
    c.in_ok-fresh.fresh (λ e none. none) c.in_ok-fresh.ensures.cases in
    let most : c.cells.result * c.side.result ≤ 256 * 16 = mul-le-mul c.cells.ensures.bound c.side.ensures.bound.1 in
    let few = few_variables (c.cells.result * c.side.result) c.in_ok-fresh.fresh most (λ one. omega (arith, s.few one, n)) in
    search rules

pub returns : goal.returns
returns g c =
    let b = c.args.board.now in
    let n : c.cells.result * c.side.result ≡ cell_variables b = ap₂ ◌*◌ c.cells.ensures.value c.side.ensures.value in
    let base = base_written b c.open-place.result c.write_base.new.place c.write_base.result c.write_base.ensures c.in_ok-map_err.field-0 (λ e none. none) c.in_ok-map_err.ensures.cases in
    let s =
    success g.K.Kind.meaning g.T.Totaller.meaning g.met.K.Kind.lawful b c.args.part.now.total c.args.part.now.body.now
    c.open-place.result c.write_base.new.place c.write.new.place (length c.args.room.now) (c.cells.result * c.side.result + 1)
    c.open-place.ensures.holds c.open-place.ensures.room base (ap (λ k. k + 1) n) c.write.result c.write.ensures
    c.in_ok-fresh.fresh (λ e none. none) c.in_ok-fresh.ensures.cases in (
      base_fits b c.open-place.result c.write_base.new.place (length c.args.room.now) c.open-place.ensures.holds c.open-place.ensures.room base,
      s.fault,
      c.in_ok-text.ensures ∙ ap₂ cnf (ap₂ ◌+◌ n s.counted) s.holds,
    )
