use Rattle.std.proofs.Common.{◌+◌, [], ◌∷◌, drop, sym, ap, subst, ◌∙◌, append-nil, arith}
use Rattle.std.proofs.lemmas.List.{drop_all, drop_more}
use Rattle.boards.specs.Base.{base, clauses_of, no_repeat}
use Rattle.boards.specs.Board.{cells, lines}
use Rattle.boards.proofs.Lines.{length_lines, line_is, some_line}
use Rattle.places.proofs.Loops.{ToCome, next_below, none_below, turn_exit, turn_more, turns_all, turns_end, turns_from}
use Rattle.boards.proofs.Loops.{base_is}
use Rattle.boards.proofs.base.write_base.Goals as goal
use Rattle.boards.proofs.base.write_base.Goals.{in-Some+in_ok-write_no_repeat, in_default}

pub loop-cell-init : goal.loop-cell-init
loop-cell-init g c = turns_from (base_is c.args.board.now) (λ r o w. w)

pub returns-in_err-write_some_digit : goal.returns-in_err-write_some_digit
returns-in_err-write_some_digit g c =
    turn_exit c.loop-cell.invariant (next_below (cells c.args.board.now) c.loop-cell.cell (omega arith)) c.from_residual.result c.from_residual.ensures.1
    c.in_err-write_some_digit.ensures

pub loop-cell-preserved : goal.loop-cell-preserved
loop-cell-preserved g c =
    turn_more c.loop-cell.invariant (next_below (cells c.args.board.now) c.loop-cell.cell (omega arith)) c.in_ok-write_some_digit.ensures

pub loop-cell-2-init : goal.loop-cell-2-init
loop-cell-2-init g c = record { left = turns_end c.loop-cell.invariant (none_below (cells c.args.board.now) c.loop-cell.cell (omega arith)) }

pub returns-in_err-write_no_two_digits : goal.returns-in_err-write_no_two_digits
returns-in_err-write_no_two_digits g c =
    turn_exit c.loop-cell-2.invariant (next_below (cells c.args.board.now) c.loop-cell-2.cell (omega arith))
    c.from_residual-in_err-write_no_two_digits.result c.from_residual-in_err-write_no_two_digits.ensures.1 c.in_err-write_no_two_digits.ensures

pub loop-cell-2-preserved : goal.loop-cell-2-preserved
loop-cell-2-preserved g c =
    turn_more c.loop-cell-2.invariant (next_below (cells c.args.board.now) c.loop-cell-2.cell (omega arith)) c.in_ok-write_no_two_digits.ensures

pub loop-number-init : goal.loop-number-init
loop-number-init g c =
    turns_from (sym (append-nil _)) (turns_end c.loop-cell-2.invariant (none_below (cells c.args.board.now) c.loop-cell-2.cell (omega arith)))

pub returns-in_err-write_no_repeat : goal.returns-in_err-write_no_repeat
returns-in_err-write_no_repeat g c =
    let b = c.args.board.now in
    let i = c.loop-number.number in
    let n = length_lines b in
    let line = c.cells.ensures ∙ line_is b i _ c.in-Some.ensures in
    turn_exit c.loop-number.invariant (drop_more (lines b) i [] (omega arith) ∙ ap (λ l. l ∷ drop (i + 1) (lines b)) (sym line))
    c.from_residual-in_err-write_no_repeat.result c.from_residual-in_err-write_no_repeat.ensures.1 c.in_err-write_no_repeat.ensures

pub loop-number-preserved : goal.loop-number-preserved
loop-number-preserved g c =
    let b = c.args.board.now in
    let i = c.loop-number.number in
    let n = length_lines b in
    elim c.match-line.branch [
      | in-Some+in_ok-write_no_repeat w ↦
          let line = w.cells.ensures ∙ line_is b i _ w.in-Some.ensures in
          subst (ToCome g.P.Place (clauses_of b (base b)) c.args.place.now (λ l. clauses_of b (no_repeat b l)) [] (drop (i + 1) (lines b))) (sym w.place-is)
          (turn_more c.loop-number.invariant (drop_more (lines b) i [] (omega arith) ∙ ap (λ l. l ∷ drop (i + 1) (lines b)) (sym line))
          w.in_ok-write_no_repeat.ensures)
      | in_default w ↦ absurd (some_line b i (omega arith) w.in_default.ensures)
    ]

pub returns : goal.returns
returns g c =
    let n = length_lines c.args.board.now in
    turns_all c.loop-number.invariant (drop_all c.loop-number.number (lines c.args.board.now) (omega arith))
