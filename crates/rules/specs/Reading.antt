-- The grid that is read off a model.
use Rattle.std.specs.Prelude.{ℕ, List, [], ◌∷◌, pos, Ok, Err, filter, Result}
use Rattle.std.specs.List.{range_with_len}
use Rattle.boards.specs.declared.board.Board.{Board}
use Rattle.boards.specs.Board.{cells, side}
use Rattle.boards.specs.Atoms.{at, number}
use Rattle.rules.specs.Model.{true_in}

-- the digits that the cell c has: those whose byte is 1
abbrev pub marked : Board → List ℕ → ℕ → List ℕ
marked b m c = filter (λ d. true_in m (pos (number b 0 (at c d)))) (range_with_len 1 (side b))

-- the one digit of the cell c, before what is read of the later cells; with none or several the cell is refused
abbrev pub with_cell : ℕ → List ℕ → Result (List ℕ) ℕ → Result (List ℕ) ℕ
with_cell c [] later = Err c
with_cell c (d ∷ []) (Ok g) = Ok (d ∷ g)
with_cell c (d ∷ []) (Err e) = Err e
with_cell c (d ∷ e ∷ ds) later = Err c

-- the digits of the cells, in order, or the first cell that has none or several
abbrev pub read_cells : Board → List ℕ → List ℕ → Result (List ℕ) ℕ
read_cells b m [] = Ok []
read_cells b m (c ∷ cs) = with_cell c (marked b m c) (read_cells b m cs)

-- the grid that the bytes m show, or the first cell that has no digit or several; of m it takes the bytes of the cells'
-- variables, which come first
abbrev pub read_off : Board → List ℕ → Result (List ℕ) ℕ
read_off b m = read_cells b m (range_with_len 0 (cells b))
