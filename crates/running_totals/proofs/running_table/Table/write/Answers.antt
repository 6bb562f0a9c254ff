use Rattle.std.proofs.Common.{◌+◌, ◌*◌, [], ◌∷◌, ◌++◌, length, pos, sym, subst, arith}
use Rattle.std.specs.Result.{result_err}
use Rattle.std.proofs.lemmas.Int.{ints}
use Rattle.formulas.specs.Numbered.{numbered}
use Rattle.places.specs.Written.{Writes}
use Rattle.places.proofs.Written.{writes_exit, writes_stops, writes_then}
use Rattle.totals.specs.Running.{first_row, rows}
use Rattle.running_totals.specs.Room.{numbers}
use Rattle.running_totals.proofs.Sums.{unit_as}
use Rattle.running_totals.proofs.Rows.{table_is}
use Rattle.running_totals.proofs.running_table.Table.write.Goals as goal

pub returns-in_err-write_first_row : goal.returns-in_err-write_first_row
returns-in_err-write_first_row g c =
    let s = c.args.self.now.sum in
    let N = numbers s in
    let one = numbered N (first_row s.target) in
    let two = numbered N (rows s.weights.now s.target) in
    let last = (pos (s.first + (length s.weights.now * (s.target + 1) + s.target)) ∷ []) ∷ [] in
    let p = c.args.place.now in
    let q = c.write_first_row.new.place in
    subst (λ cs. Writes g.P.Place cs p q (result_err c.from_residual.result)) (sym (table_is s.variables.now s.weights.now s.target s.first))
    (writes_exit g.P.Place _ p q _ c.from_residual.result c.from_residual.ensures.1
    (writes_stops g.P.Place (one ++ two) last p q _ (writes_stops g.P.Place one two p q _ c.in_err-write_first_row.ensures)))

pub returns-in_err-write_rows : goal.returns-in_err-write_rows
returns-in_err-write_rows g c =
    let s = c.args.self.now.sum in
    let N = numbers s in
    let one = numbered N (first_row s.target) in
    let two = numbered N (rows s.weights.now s.target) in
    let last = (pos (s.first + (length s.weights.now * (s.target + 1) + s.target)) ∷ []) ∷ [] in
    let p = c.args.place.now in
    let q = c.write_first_row.new.place in
    let r = c.write_rows.new.place in
    subst (λ cs. Writes g.P.Place cs p r (result_err c.from_residual-in_err-write_rows.result)) (sym (table_is s.variables.now s.weights.now s.target s.first))
    (writes_exit g.P.Place _ p r _ c.from_residual-in_err-write_rows.result c.from_residual-in_err-write_rows.ensures.1
    (writes_stops g.P.Place (one ++ two) last p r _
    (writes_then g.P.Place one two p q r _ c.in_ok-write_first_row.ensures c.in_err-write_rows.ensures)))

pub returns : goal.returns
returns g c =
    let s = c.args.self.now.sum in
    let N = numbers s in
    let one = numbered N (first_row s.target) in
    let two = numbered N (rows s.weights.now s.target) in
    let last = (pos (s.first + (length s.weights.now * (s.target + 1) + s.target)) ∷ []) ∷ [] in
    let p = c.args.place.now in
    let q = c.write_first_row.new.place in
    let r = c.write_rows.new.place in
    let end = c.write_unit.new.place in
    subst (λ cs. Writes g.P.Place cs p end (result_err c.write_unit.result)) (sym (table_is s.variables.now s.weights.now s.target s.first))
    (writes_then g.P.Place (one ++ two) last p r end _
    (writes_then g.P.Place one two p q r _ c.in_ok-write_first_row.ensures c.in_ok-write_rows.ensures)
    (unit_as g.P.Place _ (pos (s.first + (length s.weights.now * (s.target + 1) + s.target))) r end _ (omega (arith, ints, c.total-all.ensures.is)) c.write_unit.ensures))
