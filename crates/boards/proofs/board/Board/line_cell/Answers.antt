use Rattle.boards.proofs.Lines.{row_cell, column_cell, box_cell_at}
use Rattle.boards.proofs.board.Board.line_cell.Goals as goal

pub returns-then-number-side : goal.returns-then-number-side
returns-then-number-side c =
    (row_cell c.args.self.now c.side-side.result c.args.number c.args.index c.side-side.ensures.value c.requires.within c.if-number-side.true).1

pub returns-then-number-side-2 : goal.returns-then-number-side-2
returns-then-number-side-2 c =
    (column_cell c.args.self.now c.side-side.result c.args.number c.args.index c.side-side.ensures.value c.requires.within
    c.if-number-side.false c.if-number-side-2.true).1

pub overflow_cast-result-2 : goal.overflow_cast-result-2
overflow_cast-result-2 c = record { fits = (box_cell_at c.args.self.now c.side-side.result c.args.number c.args.index c.side-side.ensures.value c.requires.within c.if-number-side-2.false c.requires.line).0 }

pub returns : goal.returns
returns c =
    (box_cell_at c.args.self.now c.side-side.result c.args.number c.args.index c.side-side.ensures.value c.requires.within
    c.if-number-side-2.false c.requires.line).1
