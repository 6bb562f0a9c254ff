use Rattle.std.proofs.Common.{◌≡◌, ◌<◌, length}
use Rattle.std.specs.List.{AllByRecursion as Each}
use Rattle.meanings.specs.Thermometer as meaning
use Rattle.thermometer.proofs.steps.rises.Given as goal

abbrev pub invariant-loop-pair : goal.invariant-loop-pair
invariant-loop-pair l =
    (l.pair-iterator.size ≡ 2) × Each (λ c. c < length l.grid) l.pair-iterator.rest.now ×
    (meaning.rises l.grid l.cells ≡ meaning.rises l.grid l.pair-iterator.rest.now)
