use Rattle.std.proofs.Common.{[], drop}
use Rattle.boards.specs.Base.{clauses_of, differs, not_same}
use Rattle.places.proofs.Loops.{ToCome}
use Rattle.boards.proofs.cells.write_differs.Given as goal

abbrev pub invariant-loop-other : goal.invariant-loop-other
invariant-loop-other g l =
    ToCome g.P.Place (clauses_of l.fn.board (differs l.fn.board l.fn.cell l.fn.others)) l.fn.place (λ q. clauses_of l.fn.board (not_same l.fn.board (l.fn.cell, q))) [] (drop l.other-index l.fn.others) l.place
