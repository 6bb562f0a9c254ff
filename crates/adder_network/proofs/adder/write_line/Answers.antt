use Rattle.std.proofs.Common.{◌≡◌, ◌-◌, ◌∷◌, [], length, take, drop, Some, None, sym, ap, ◌∙◌, subst, arith}
use Rattle.std.proofs.lemmas.List.{length-map, map-append}
use Rattle.places.specs.Written.{Writes}
use Rattle.totals.specs.Numbers.{first_adder, wiring}
use Rattle.adder_network.specs.Variables.{bit_of, number_of, numbers}
use Rattle.adder_network.proofs.Reducing.{bit_first, full_of, half_of, line_turn, reducing_all, reducing_exit, standing_is, taken_exit}
use Rattle.adder_network.proofs.adder.write_line.Goals as goal
use Rattle.adder_network.proofs.adder.write_line.Goals.{in-len2+in_ok-write_half_adder-in-len2, in-len3-up+in_ok-write_full_adder-in-len3-up}

pub returns-in_err-write_full_adder-in-len3-up : goal.returns-in_err-write_full_adder-in-len3-up
returns-in_err-write_full_adder-in-len3-up g c =
    let l = c.loop-taken in
    let s = take (length c.as_slice.result.now - l.taken) (drop l.taken c.as_slice.result.now) in
    let is_ls : numbers s ≡ drop l.taken (numbers l.line.items) = standing_is _ l.line.items l.taken c.as_slice.ensures.value in
    let size : length s ≡ length (drop l.taken (numbers l.line.items)) = sym (length-map s (λ v. v.number)) ∙ ap length is_ls in
    let q = c.write_full_adder.new.place in
    let r = c.from_residual-in_err-write_full_adder-in-len3-up in
    let f = c.in_err-write_full_adder-in-len3-up.field-0.0 in
    taken_exit g.P.Place (numbers c.args.line.now.items) c.args.first c.args.place.now q f r.result r.ensures.1
    (reducing_exit g.P.Place (numbers c.args.line.now.items) c.args.first c.args.place.now (drop l.taken (numbers l.line.items)) (length l.line.items) l.next l.place l.invariant.1 (omega (arith, size, c.in-len3-up.len_at_least)) q f
    (subst (λ a. Writes g.P.Place (wiring l.next (a ∷ [])) l.place q (Some f)) (full_of s c.a-item-in-loop-taken.result c.b-item-in-loop-taken.result c.c-item.result c.a-item-in-loop-taken.is c.b-item-in-loop-taken.is c.c-item.is c.in-len3-up.len_at_least ∙ ap first_adder is_ls) c.in_err-write_full_adder-in-len3-up.ensures))

pub returns-in_err-write_half_adder-in-len2 : goal.returns-in_err-write_half_adder-in-len2
returns-in_err-write_half_adder-in-len2 g c =
    let l = c.loop-taken in
    let s = take (length c.as_slice.result.now - l.taken) (drop l.taken c.as_slice.result.now) in
    let is_ls : numbers s ≡ drop l.taken (numbers l.line.items) = standing_is _ l.line.items l.taken c.as_slice.ensures.value in
    let size : length s ≡ length (drop l.taken (numbers l.line.items)) = sym (length-map s (λ v. v.number)) ∙ ap length is_ls in
    let q = c.write_half_adder.new.place in
    let f = c.in_err-write_half_adder-in-len2.field-0.0 in
    taken_exit g.P.Place (numbers c.args.line.now.items) c.args.first c.args.place.now q f c.from_residual.result c.from_residual.ensures.1
    (reducing_exit g.P.Place (numbers c.args.line.now.items) c.args.first c.args.place.now (drop l.taken (numbers l.line.items)) (length l.line.items) l.next l.place l.invariant.1 (omega (arith, size, c.in-len2.len_at_least)) q f
    (subst (λ a. Writes g.P.Place (wiring l.next (a ∷ [])) l.place q (Some f)) (half_of s c.a-item.result c.b-item.result c.a-item.is c.b-item.is c.in-len2.len_at_least c.in-len2.len_below ∙ ap first_adder is_ls) c.in_err-write_half_adder-in-len2.ensures))

pub loop-taken-preserved : goal.loop-taken-preserved
loop-taken-preserved g c =
    let l = c.loop-taken in
    let s = take (length c.as_slice.result.now - l.taken) (drop l.taken c.as_slice.result.now) in
    let is_ls : numbers s ≡ drop l.taken (numbers l.line.items) = standing_is _ l.line.items l.taken c.as_slice.ensures.value in
    let size : length s ≡ length (drop l.taken (numbers l.line.items)) = sym (length-map s (λ v. v.number)) ∙ ap length is_ls in
    let grown = ap numbers c.push.ensures.items ∙ map-append (λ v. v.number) l.line.items _ in
    elim c.if-this-lt3.branch [
      | in-len2+in_ok-write_half_adder-in-len2 w ↦
          let q = w.write_half_adder.new.place in
          rw w.taken-is (rw w.place-is (line_turn g.P.Place (numbers c.args.line.now.items) c.args.first c.args.place.now l.line.items c.push.new.self.items l.taken 2 l.next l.place q grown l.invariant.0 l.invariant.1
          (omega (arith, size, w.in-len2.len_at_least)) (omega (arith, size, w.in-len2.len_at_least, w.in-len2.len_below))
          (subst (λ a. Writes g.P.Place (wiring l.next (a ∷ [])) l.place q None) (half_of s w.a-item.result w.b-item.result w.a-item.is w.b-item.is w.in-len2.len_at_least w.in-len2.len_below ∙ ap first_adder is_ls) w.in_ok-write_half_adder-in-len2.ensures)))
      | in-len3-up+in_ok-write_full_adder-in-len3-up w ↦
          let q = w.write_full_adder.new.place in
          rw w.taken-is (rw w.place-is (line_turn g.P.Place (numbers c.args.line.now.items) c.args.first c.args.place.now l.line.items c.push.new.self.items l.taken 3 l.next l.place q grown l.invariant.0 l.invariant.1
          (omega (arith, size, w.in-len3-up.len_at_least)) (omega (arith, size, w.in-len3-up.len_at_least))
          (subst (λ a. Writes g.P.Place (wiring l.next (a ∷ [])) l.place q None) (full_of s w.a-item-in-loop-taken.result w.b-item-in-loop-taken.result w.c-item.result w.a-item-in-loop-taken.is w.b-item-in-loop-taken.is w.c-item.is w.in-len3-up.len_at_least ∙ ap first_adder is_ls) w.in_ok-write_full_adder-in-len3-up.ensures)))
    ]

pub returns-in_default : goal.returns-in_default
returns-in_default g c =
    let l = c.loop-taken in
    let s = take (length c.as_slice.result.now - l.taken) (drop l.taken c.as_slice.result.now) in
    let is_ls : numbers s ≡ drop l.taken (numbers l.line.items) = standing_is _ l.line.items l.taken c.as_slice.ensures.value in
    let size : length s ≡ length (drop l.taken (numbers l.line.items)) = sym (length-map s (λ v. v.number)) ∙ ap length is_ls in
    let (w, left) = reducing_all g.P.Place (numbers c.args.line.now.items) c.args.first c.args.place.now (drop l.taken (numbers l.line.items)) (length l.line.items) l.next l.place l.invariant.1 (omega (arith, size, c.in_default.len_below)) in
    (w, ap number_of (c.copied.ensures ∙ c.first.ensures.value) ∙ bit_first s ∙ ap bit_of (is_ls ∙ left))
