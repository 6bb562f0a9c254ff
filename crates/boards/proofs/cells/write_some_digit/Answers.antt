use Rattle.std.proofs.Common.{◌≡◌, ◌+◌, ◌-◌, ◌<◌, length, ap, ◌∙◌, lit<, arith}
use Rattle.std.proofs.lemmas.List.FromFn.{length-map-range_with_len}
use Rattle.std.proofs.lemmas.Int.{ints}
use Rattle.places.proofs.Written.{writes_put}
use Rattle.boards.specs.Board.{side}
use Rattle.boards.proofs.Loops.{digits_clause, digits_valid, first_digits, one_digit_more}
use Rattle.boards.proofs.cells.write_some_digit.Goals as goal
use Rattle.boards.proofs.cells.write_some_digit.Goals.{else-loop-digit-test, then-loop-digit-test+else-digit-digit-end}

pub push-requires : goal.push-requires
push-requires g c =
    let d = c.loop-digit.digit in
    let e = ap length c.loop-digit.invariant ∙ length-map-range_with_len _ 1 (d - 1) in
    let room : length c.loop-digit.clause.items < 16 = omega (arith, e) in
    (lit< tt, room)

pub loop-digit-preserved : goal.loop-digit-preserved
loop-digit-preserved g c =
    c.push.ensures.items ∙
    one_digit_more c.args.board.now c.args.cell c.loop-digit.digit c.loop-digit.clause.items _ (omega arith) c.loop-digit.invariant (omega (arith, ints))

pub returns : goal.returns
returns g c =
    let b = c.args.board.now in
    let d = c.loop-digit.digit in
    let all : c.loop-digit-test.clause.items ≡ first_digits b c.args.cell (side b) =
    elim c.loop-digit-test.branch [
      | else-loop-digit-test w ↦
          let n : d - 1 ≡ side b = omega (arith, w.loop-digit-test.false) in
          ap (λ v. v.items) w.clause-is ∙ c.loop-digit.invariant ∙ ap (first_digits b c.args.cell) n
      | then-loop-digit-test+else-digit-digit-end w ↦
          let n : d + 1 - 1 ≡ side b = omega arith in
          ap (λ v. v.items) w.clause-is ∙ w.push.ensures.items ∙
          one_digit_more b c.args.cell d c.loop-digit.clause.items _ (omega arith) c.loop-digit.invariant (omega (arith, ints)) ∙ ap (first_digits b c.args.cell) n
    ] in
    writes_put g.P.Place _ _ (c.deref.ensures.0 ∙ all ∙ digits_clause b c.args.cell 1 (side b)) (digits_valid b c.args.cell (omega (arith, c.ranges.cell.fits)))
    c.args.place.now c.put.new.self c.put.result c.put.ensures.fault c.put.ensures.holds c.put.ensures.room
