use Rattle.std.proofs.Common.{ℕ, ◌+◌, [], ◌∷◌, get_or, take, drop, refl, arith}
use Rattle.formulas.specs.Numbered.{numbered}
use Rattle.places.proofs.Written.{writes_exit, writes_stops, writes_then}
use Rattle.totals.specs.Adders.{full_clauses}
use Rattle.adder_network.proofs.Adding.{table_is, table_written}
use Rattle.adder_network.proofs.adder.write_full_adder.Goals as goal

pub write_clauses-requires : goal.write_clauses-requires
write_clauses-requires g c = (omega arith, (table_is (c.args.a.number ∷ c.args.b.number ∷ c.args.c.number ∷ c.args.outputs.sum ∷ (c.args.outputs.sum + 1) ∷ []) (((c.args.a.low, c.args.a.high), ((c.args.b.low, c.args.b.high), ((c.args.c.low, c.args.c.high), ((c.args.outputs.low, omega (arith, c.args.outputs.high)), ((omega arith, c.args.outputs.high), tt)))))) (take 8 (full_clauses 0 1 2 3 4)) refl).1)

pub returns-in_err-write_clauses : goal.returns-in_err-write_clauses
returns-in_err-write_clauses g c =
    let vs = c.args.a.number ∷ c.args.b.number ∷ c.args.c.number ∷ c.args.outputs.sum ∷ (c.args.outputs.sum + 1) ∷ [] in
    let N = λ (i : ℕ). get_or vs i 0 in
    let sums = take 8 (full_clauses 0 1 2 3 4) in
    let p = c.args.place.now in
    let q = c.write_clauses.new.place in
    writes_exit g.P.Place _ p q _ c.from_residual.result c.from_residual.ensures.1
    (writes_stops g.P.Place (numbered N sums) (numbered N (drop 8 (full_clauses 0 1 2 3 4))) p q _
    (table_written vs (((c.args.a.low, c.args.a.high), ((c.args.b.low, c.args.b.high), ((c.args.c.low, c.args.c.high), ((c.args.outputs.low, omega (arith, c.args.outputs.high)), ((omega arith, c.args.outputs.high), tt)))))) g.P.Place sums refl p q _ c.in_err-write_clauses.ensures))

pub write_clauses-requires-2 : goal.write_clauses-requires-2
write_clauses-requires-2 g c = (omega arith, (table_is (c.args.a.number ∷ c.args.b.number ∷ c.args.c.number ∷ c.args.outputs.sum ∷ (c.args.outputs.sum + 1) ∷ []) (((c.args.a.low, c.args.a.high), ((c.args.b.low, c.args.b.high), ((c.args.c.low, c.args.c.high), ((c.args.outputs.low, omega (arith, c.args.outputs.high)), ((omega arith, c.args.outputs.high), tt)))))) (drop 8 (full_clauses 0 1 2 3 4)) refl).1)

pub returns : goal.returns
returns g c =
    let vs = c.args.a.number ∷ c.args.b.number ∷ c.args.c.number ∷ c.args.outputs.sum ∷ (c.args.outputs.sum + 1) ∷ [] in
    let N = λ (i : ℕ). get_or vs i 0 in
    let sums = take 8 (full_clauses 0 1 2 3 4) in
    let carries = drop 8 (full_clauses 0 1 2 3 4) in
    let p = c.args.place.now in
    let q = c.write_clauses.new.place in
    let r = c.write_clauses-2.new.place in
    writes_then g.P.Place (numbered N sums) (numbered N carries) p q r _
    (table_written vs (((c.args.a.low, c.args.a.high), ((c.args.b.low, c.args.b.high), ((c.args.c.low, c.args.c.high), ((c.args.outputs.low, omega (arith, c.args.outputs.high)), ((omega arith, c.args.outputs.high), tt)))))) g.P.Place sums refl p q _ c.in_ok-write_clauses.ensures)
    (table_written vs (((c.args.a.low, c.args.a.high), ((c.args.b.low, c.args.b.high), ((c.args.c.low, c.args.c.high), ((c.args.outputs.low, omega (arith, c.args.outputs.high)), ((omega arith, c.args.outputs.high), tt)))))) g.P.Place carries refl q r _ c.write_clauses-2.ensures)
