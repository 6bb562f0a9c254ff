use Rattle.std.proofs.Common.{◌≡◌, drop}
use Rattle.meanings.specs.Cage.{differ}
use Rattle.sum_kinds.proofs.judging.digits_differ.Given as goal

abbrev pub invariant-loop-index : goal.invariant-loop-index
invariant-loop-index l = differ l.grid l.cells ≡ differ l.grid (drop l.index l.cells)
