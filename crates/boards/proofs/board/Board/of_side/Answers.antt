use Rattle.std.proofs.Common.{Some, sym, refl, ap, ◌∙◌}
use Rattle.boards.specs.Board.{board_of, two_by_two, three_by_three}
use Rattle.boards.proofs.Boards.{board_same}
use Rattle.boards.proofs.board.Board.of_side.Goals as goal

pub returns-in-4 : goal.returns-in-4
returns-in-4 c = ap Some (board_same _ two_by_two refl refl) ∙ ap board_of (sym c.in-4.is)

pub returns-in-9 : goal.returns-in-9
returns-in-9 c = ap Some (board_same _ three_by_three refl refl) ∙ ap board_of (sym c.in-9.is)
