use Rattle.std.proofs.Common.{◌+◌, ◌*◌, ◌/◌, ◌≤◌, ◌∷◌, [], ◌∙◌, map, sym, subst, ap, arith}
use Rattle.std.proofs.lemmas.List.{length-map, map-append}
use Rattle.adder_network.specs.Variables.{number_of, numbers}
use Rattle.adder_network.proofs.Lining.{Lining, exit_as, lined_exit, lining_all, more_as, ready_few, ready_room}
use Rattle.adder_network.proofs.network.Network.write_lines.Goals as goal

pub write_line-requires : goal.write_line-requires
write_line-requires g c =
    let s = c.args.self.now.sum in
    let l = c.loop-index in
    record {
      few = let few = length-map c.fill.new.line.items (λ v. v.number) in subst (λ n. n ≤ 192) few (ready_few g.P.Place s.variables.now s.weights.now s.first c.args.self.now.fitting c.args.place.now l.index l.carries.0 l.carries.1.0 (map number_of l.bits.items) l.place l.invariant c.loop-index-test.true (numbers c.fill.new.line.items) c.next.result c.fill.ensures c.next.ensures);
      first = (omega (arith, c.next.ensures, l.invariant.low), subst (λ k. 2 ≤ k → c.next.result + 2 * (k / 2) ≤ 65536) (length-map c.fill.new.line.items (λ v. v.number)) (ready_room g.P.Place s.variables.now s.weights.now s.first c.args.self.now.fitting c.args.place.now l.index l.carries.0 l.carries.1.0 (map number_of l.bits.items) l.place l.invariant c.loop-index-test.true (numbers c.fill.new.line.items) c.next.result c.fill.ensures c.next.ensures));
    }

pub returns-in_err-write_line : goal.returns-in_err-write_line
returns-in_err-write_line g c =
    let s = c.args.self.now.sum in
    let l = c.loop-index in
    lined_exit g.P.Place s.variables.now s.weights.now s.first c.args.place.now c.write_line.new.place _ c.from_residual.result c.from_residual.ensures.1
    (exit_as g.P.Place s.variables.now s.weights.now s.first c.args.self.now.fitting c.args.place.now l.index l.carries.0 l.carries.1.0 (map number_of l.bits.items) l.place l.invariant c.loop-index-test.true (numbers c.fill.new.line.items) c.next.result c.fill.ensures c.next.ensures c.write_line.new.place _ c.in_err-write_line.ensures)

pub loop-index-preserved : goal.loop-index-preserved
loop-index-preserved g c =
    let s = c.args.self.now.sum in
    let l = c.loop-index in
    let (w, told) = c.in_ok-write_line.ensures in
    subst (λ bits. Lining g.P.Place s.variables.now s.weights.now s.first c.args.place.now (l.index + 1) c.next-in-loop-index.result (c.len.result / 2) bits c.write_line.new.place) (sym (ap (map number_of) c.push.ensures.items ∙ map-append number_of l.bits.items (c.in_ok-write_line.field-0 ∷ [])))
    (more_as g.P.Place s.variables.now s.weights.now s.first c.args.self.now.fitting c.args.place.now l.index l.carries.0 l.carries.1.0 (map number_of l.bits.items) l.place l.invariant c.loop-index-test.true (numbers c.fill.new.line.items) c.next.result c.fill.ensures c.next.ensures c.write_line.new.place (number_of c.in_ok-write_line.field-0) told w
    c.next-in-loop-index.result (c.len.result / 2) c.next-in-loop-index.ensures (ap (λ n. n / 2) (c.len.ensures.value ∙ sym (length-map c.fill.new.line.items (λ v. v.number)))))

pub returns : goal.returns
returns g c =
    let s = c.args.self.now.sum in
    let l = c.loop-index in
    lining_all g.P.Place s.variables.now s.weights.now s.first c.args.self.now.fitting c.args.place.now l.index l.carries.0 l.carries.1.0 (map number_of l.bits.items) l.place l.invariant (omega (arith, c.loop-index-test.false)) l.auto.index-end
