use Rattle.std.proofs.Common.{◌≡◌, ◌-◌}
use Rattle.boards.proofs.Loops.{first_digits}
use Rattle.boards.proofs.cells.write_some_digit.Given as goal

-- the variables of the digits before `digit` are there
abbrev pub invariant-loop-digit : goal.invariant-loop-digit
invariant-loop-digit g l = l.clause.items ≡ first_digits l.fn.board l.fn.cell (l.digit - 1)
