use Rattle.std.proofs.Common.{◌+◌, ◌*◌, [], ◌∷◌, pos, neg_ℤ, ap₂, arith}
use Rattle.std.proofs.lemmas.Int.{ints}
use Rattle.boards.specs.Board.{side}
use Rattle.places.proofs.Written.{writes_put}
use Rattle.formulas.proofs.Valid.{usable_not, valid_two}
use Rattle.boards.proofs.cells.write_not_both.Goals as goal

pub returns : goal.returns
returns g c =
    let p = c.args.first.cell * side c.args.board.now + c.args.first.digit in
    let q = c.args.second.cell * side c.args.board.now + c.args.second.digit in
    writes_put g.P.Place _ (neg_ℤ (pos p) ∷ neg_ℤ (pos q) ∷ []) (ap₂ (λ x y. x ∷ y ∷ []) (omega (arith, ints)) (omega (arith, ints)))
    (valid_two (neg_ℤ (pos p)) (neg_ℤ (pos q)) (usable_not p (omega arith) (omega arith)) (usable_not q (omega arith) (omega arith)))
    c.args.place.now c.put.new.self c.put.result c.put.ensures.fault c.put.ensures.holds c.put.ensures.room
