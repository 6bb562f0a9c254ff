use Rattle.std.proofs.Common.{map, sym, subst}
use Rattle.std.specs.Result.{result_err}
use Rattle.std.proofs.lemmas.List.{map-append}
use Rattle.formulas.specs.Numbered.{numbered, signed}
use Rattle.places.specs.Written.{Writes}
use Rattle.places.proofs.Written.{writes_then}
use Rattle.totals.specs.Running.{with_item, without_item}
use Rattle.running_totals.specs.Room.{numbers}
use Rattle.running_totals.proofs.running_step.Step.write.Goals as goal

pub returns : goal.returns
returns g c =
    let step = c.args.self.now in
    let N = numbers step.table.sum in
    let one = with_item step.table.sum.target step.index step.weight step.sum in
    let two = without_item step.table.sum.target step.index step.sum in
    let p = c.args.place.now in
    let q = c.write_with_item.new.place in
    let r = c.write_without_item.new.place in
    subst (λ cs. Writes g.P.Place cs p r (result_err c.write_without_item.result)) (sym (map-append (map (signed N)) one two))
    (writes_then g.P.Place (numbered N one) (numbered N two) p q r _ c.in_ok-write_with_item.ensures c.write_without_item.ensures)
