use Rattle.std.proofs.Common.{◌+◌, []}
use Rattle.std.specs.List.{flat_map, range_with_len}
use Rattle.formulas.specs.Numbered.{numbered}
use Rattle.places.proofs.Loops.{ToCome, below}
use Rattle.totals.specs.Running.{step}
use Rattle.running_totals.specs.Room.{numbers}
use Rattle.running_totals.proofs.running_table.Table.write_row.Given as goal

abbrev pub invariant-loop-sum : goal.invariant-loop-sum
invariant-loop-sum g l =
    let s = l.self.sum in
    ToCome g.P.Place (numbered (numbers s) (flat_map (step s.target l.index l.weight) (range_with_len 0 (s.target + 1)))) l.initial.place
    (λ u. numbered (numbers s) (step s.target l.index l.weight u)) [] (below (s.target + 1) l.sum) l.place
