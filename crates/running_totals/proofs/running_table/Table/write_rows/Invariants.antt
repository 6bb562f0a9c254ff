use Rattle.std.proofs.Common.{[], length}
use Rattle.formulas.specs.Numbered.{numbered}
use Rattle.places.proofs.Loops.{ToCome, below}
use Rattle.totals.specs.Running.{row, rows}
use Rattle.running_totals.specs.Room.{numbers}
use Rattle.running_totals.proofs.running_table.Table.write_rows.Given as goal

abbrev pub invariant-loop-index : goal.invariant-loop-index
invariant-loop-index g l =
    let s = l.self.sum in
    ToCome g.P.Place (numbered (numbers s) (rows s.weights.now s.target)) l.initial.place (λ i. numbered (numbers s) (row s.weights.now s.target i)) []
    (below (length s.weights.now) l.index) l.place
