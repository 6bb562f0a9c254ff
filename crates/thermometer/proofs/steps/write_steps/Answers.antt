use Rattle.std.proofs.Common.{◌∙◌, sym, ap, arith}
use Rattle.std.specs.List.{flat_map}
use Rattle.places.proofs.Loops.{turn_exit, turn_more, turns_all, turns_begin}
use Rattle.kinds.specs.Answers.{clauses_from}
use Rattle.meanings.specs.Thermometer.{below}
use Rattle.thermometer.proofs.Rising.{few_steps, more_steps, rising_is, steps}
use Rattle.thermometer.proofs.steps.write_steps.Goals as goal

pub loop-pair-init : goal.loop-pair-init
loop-pair-init g c =
    let b = c.args.board.now in
    let gives = c.into_iter-pair-iterator.ensures.into_iter_gives in
    let all = ap (λ w. w.rest.now) gives ∙ c.windows-pair-items.ensures.rest in (
      ap (λ w. w.size) gives ∙ c.windows-pair-items.ensures.size,
      λ f. turns_begin (rising_is b f c.args.cells.now ∙ ap (λ cs. flat_map (λ s. clauses_from b f (below b s.0 s.1)) (steps cs)) (sym all)),
    )

pub loop-pair-preserved : goal.loop-pair-preserved
loop-pair-preserved g c =
    let (two, left) = c.loop-pair.invariant in
    let (same, (long, first, then, width)) = c.in-Some.ensures.steps in
    (same ∙ two, λ f. turn_more (left f) (more_steps c.loop-pair.pair-iterator.rest.now _ _ _ two long first then) (c.in_ok-write_below.ensures f))

pub returns-in_err-write_below : goal.returns-in_err-write_below
returns-in_err-write_below g c =
    let (two, left) = c.loop-pair.invariant in
    let (same, (long, first, then, width)) = c.in-Some.ensures.steps in
    λ f. turn_exit (left f) (more_steps c.loop-pair.pair-iterator.rest.now _ _ _ two long first then) c.from_residual.result c.from_residual.ensures.1 (c.in_err-write_below.ensures f)

pub returns : goal.returns
returns g c =
    let (two, left) = c.loop-pair.invariant in
    λ f. turns_all (left f) (few_steps c.loop-pair.pair-iterator.rest.now (omega (arith, two, c.in-None.ensures.steps)))
