use Rattle.std.proofs.Common.{[], ◌∷◌, ◌++◌, drop}
use Rattle.std.specs.List.{flat_map}
use Rattle.places.proofs.Loops.{ToCome, below}
use Rattle.boards.specs.Base.{base, clauses_of, no_repeat, no_two_digits, some_digit}
use Rattle.boards.specs.Board.{cells, lines}
use Rattle.boards.proofs.base.write_base.Given as goal

abbrev pub invariant-loop-cell : goal.invariant-loop-cell
invariant-loop-cell g l =
    let b = l.fn.board in
    ToCome g.P.Place (clauses_of b (base b)) l.fn.place (λ c. clauses_of b (some_digit b c ∷ []))
    (flat_map (λ c. clauses_of b (no_two_digits b c)) (below (cells b) 0) ++ flat_map (λ line. clauses_of b (no_repeat b line)) (lines b)) (below (cells b) l.cell) l.place

abbrev pub invariant-loop-cell-2 : goal.invariant-loop-cell-2
invariant-loop-cell-2 g l =
    let b = l.fn.board in
    ToCome g.P.Place (clauses_of b (base b)) l.fn.place (λ c. clauses_of b (no_two_digits b c))
    (flat_map (λ line. clauses_of b (no_repeat b line)) (lines b)) (below (cells b) l.cell) l.place

abbrev pub invariant-loop-number : goal.invariant-loop-number
invariant-loop-number g l =
    let b = l.fn.board in
    ToCome g.P.Place (clauses_of b (base b)) l.fn.place (λ line. clauses_of b (no_repeat b line)) [] (drop l.number (lines b)) l.place
