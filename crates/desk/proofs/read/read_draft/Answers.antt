use Rattle.std.proofs.Common.{◌+◌, length, refl, sym, ◌∙◌, rules, tests}
use Rattle.std.proofs.lemmas.Iterator.Consumers.{YieldsList-from_enumerate}
use Rattle.std.proofs.lemmas.Iterator.Splits.{YieldsList-from_slice_split}
use Rattle.spelling.specs.Text.{is_line_feed}
use Rattle.desk.specs.DraftText.{lines_of}
use Rattle.desk.proofs.Reading.{ended, handed_on, next_line, no_line}
use Rattle.desk.proofs.read.read_draft.Goals as goal

pub loop-index-init : goal.loop-index-init
loop-index-init c =
    record {
      n = 0;
      rest = lines_of c.args.text.now;
      runs =
          YieldsList-from_enumerate
          (YieldsList-from_slice_split _ is_line_feed c.args.text.now (cc) (cc) (cc) (λ x r q k. search (rules, tests))) (cc);
      is = refl;
    }

pub returns-in_err-found : goal.returns-in_err-found
returns-in_err-found c =
    let (rest, runs, is) =
    next_line c.args.text.now c.loop-index.found c.loop-index.invariant c.in-Some.index c.in-Some.bytes c.read_line.result c.next.result c.next.new.self
    c.next.ensures.steps c.in-Some.is c.read_line.ensures in
    handed_on c.in_err-found.field-0.0 _ c.from_residual.result c.from_residual.ensures.1 (is ∙ c.in_err-found.ensures _ _)

pub loop-index-preserved : goal.loop-index-preserved
loop-index-preserved c =
    let (rest, runs, is) =
    next_line c.args.text.now c.loop-index.found c.loop-index.invariant c.in-Some.index c.in-Some.bytes c.read_line.result c.next.result c.next.new.self
    c.next.ensures.steps c.in-Some.is c.read_line.ensures in
    record { n = c.in-Some.index + 1; rest = rest; runs = runs; is = is ∙ c.in_ok-found.ensures _ _ }

pub returns : goal.returns
returns c =
    let is = no_line c.args.text.now c.loop-index.found c.loop-index.invariant c.next.result c.next.new.self c.next.ensures.steps c.in-None.is in
    ended (length (lines_of c.args.text.now)) c.loop-index.found c.ok_or_else.result (λ e k. search rules) c.ok_or_else.ensures.cases ∙ sym is
