use Rattle.std.proofs.Common.{[], ◌∷◌, ◌++◌, get_or, Some, None, sym, ap, ◌∙◌, ap₂, arith}
use Rattle.std.proofs.lemmas.List.{length-set, take-append-le, take_all, take_more, take_more_set}
use Rattle.std.proofs.lemmas.Bool.{cond-true, lt-ltb}
use Rattle.boards.specs.Board.{lines}
use Rattle.boards.proofs.Lines.{length_line}
use Rattle.boards.proofs.board.Board.line.Goals as goal

pub loop-index-preserved : goal.loop-index-preserved
loop-index-preserved c =
    let l = get_or (lines c.args.self.now) c.args.number [] in
    let n = length_line c.args.self.now c.args.number (omega arith) in
    let xs = c.loop-index.cell-items in
    let i = c.loop-index.index in (
      length-set xs i c.line_cell.result ∙ c.loop-index.invariant.0,
      take_more_set xs i c.line_cell.result (omega arith) ∙
          ap₂ (λ p x. p ++ x ∷ []) c.loop-index.invariant.1 c.line_cell.ensures ∙ sym (take_more l i 0 (omega arith)),
    )

pub returns : goal.returns
returns c =
    let l = get_or (lines c.args.self.now) c.args.number [] in
    let n = length_line c.args.self.now c.args.number (omega arith) in
    let xs = c.loop-index.cell-items in
    let i = c.loop-index.index in
    ap Some (take-append-le c.side-side.result xs _ (omega arith) ∙ take_all c.side-side.result xs (omega arith) ∙ sym (take_all i xs (omega arith)) ∙
    c.loop-index.invariant.1 ∙ take_all i l (omega arith)) ∙
    sym (cond-true _ (Some l) None (lt-ltb c.args.number _ (omega arith)))
