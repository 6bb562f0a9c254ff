-- The board of a part.
use Rattle.boards.specs.declared.board.Board.{Board}
use Rattle.boards.specs.Board.{two_by_two, three_by_three}
use Rattle.part_text.specs.declared.part.Side.{Side}
use Rattle.part_text.specs.declared.part.Side.TheVariants.{Four, Nine}

abbrev pub board : Side → Board
board Four = two_by_two
board Nine = three_by_three
