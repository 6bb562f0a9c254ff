use Rattle.std.proofs.Common.{sym, ◌∙◌, arith}
use Rattle.thermometer.proofs.Rising.{few_rise}
use Rattle.thermometer.proofs.steps.rises.Goals as goal

pub returns : goal.returns
returns c = let (two, on, so_far) = c.loop-pair.invariant in sym (so_far ∙ few_rise c.args.grid.now c.loop-pair.pair-iterator.rest.now (omega (arith, c.in-None.ensures.steps)))
