use Rattle.std.proofs.Common.{ap, map, get_or, Some, sym, subst, ◌∙◌}
use Rattle.std.specs.Result.{result_err}
use Rattle.formulas.specs.Numbered.{plain}
use Rattle.places.specs.Written.{Writes}
use Rattle.places.proofs.Written.{writes_exit, writes_stops, writes_then}
use Rattle.totals.specs.Adders.{closing}
use Rattle.totals.specs.Numbers.{lines_from, wiring}
use Rattle.adder_network.specs.Variables.{bit_of, listed, number_of}
use Rattle.adder_network.proofs.Whole.{whole_is}
use Rattle.adder_network.proofs.network.Network.write.Goals as goal

pub returns-in_err-bits : goal.returns-in_err-bits
returns-in_err-bits g c =
    let s = c.args.self.now.sum in
    let vs = s.variables.now in
    let ws = s.weights.now in
    let t = s.target in
    let f = s.first in
    let p = c.args.place.now in
    let q = c.write_lines.new.place in
    let w = lines_from vs ws 0 f 0 in
    writes_exit g.P.Place _ p q _ c.from_residual.result c.from_residual.ensures.1
    (subst (λ cs. Writes g.P.Place cs p q (Some c.in_err-bits.field-0.0)) (sym (whole_is vs ws t f))
    (writes_stops g.P.Place (wiring f w.adders) (plain (closing (get_or vs 0 0) 0 t (map listed (map bit_of w.bits)))) p q _ c.in_err-bits.ensures))

pub returns : goal.returns
returns g c =
    let s = c.args.self.now.sum in
    let vs = s.variables.now in
    let ws = s.weights.now in
    let t = s.target in
    let f = s.first in
    let p = c.args.place.now in
    let q = c.write_lines.new.place in
    let r = c.write_closing.new.place in
    let w = lines_from vs ws 0 f 0 in
    let lined = c.in_ok-bits.ensures in
    subst (λ cs. Writes g.P.Place cs p r (result_err c.write_closing.result)) (sym (whole_is vs ws t f))
    (writes_then g.P.Place (wiring f w.adders) (plain (closing (get_or vs 0 0) 0 t (map listed (map bit_of w.bits)))) p q r (result_err c.write_closing.result) lined.0
    (subst (λ bs. Writes g.P.Place (plain (closing (get_or vs 0 0) 0 t (map listed bs))) q r (result_err c.write_closing.result)) (ap (map number_of) c.as_slice.ensures.value ∙ lined.1) c.write_closing.ensures))
