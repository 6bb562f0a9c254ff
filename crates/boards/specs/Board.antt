-- Boards, their rows, columns and boxes.
use Rattle.std.specs.Prelude.{ℕ, ◌+◌, ◌*◌, ◌/◌, ◌%◌, cond, List, [], ◌∷◌, ◌++◌, map, Some, None, filter, Option, ◌==◌, nat_eq}
use Rattle.std.proofs.Common.{lit≤}
use Rattle.std.specs.List.{range_with_len}
use Rattle.boards.specs.declared.board.Board.{Board}

abbrev pub side : Board → ℕ
side b = b.height * b.width

abbrev pub cells : Board → ℕ
cells b = side b * side b

-- cells and boxes are numbered from 0, row by row from the top
abbrev pub row_of : Board → ℕ → ℕ
row_of b c = c / side b

abbrev pub column_of : Board → ℕ → ℕ
column_of b c = c % side b

-- as many boxes stand side by side as a box is high
abbrev pub box_of : Board → ℕ → ℕ
box_of b c = row_of b c / b.height * b.height + column_of b c / b.width

-- the cells of the row, column or box i, as `of` says, in rising order
abbrev pub line : Board → (ℕ → ℕ) → ℕ → List ℕ
line b of i = filter (λ c. nat_eq (of c) i) (range_with_len 0 (cells b))

abbrev pub each_line : Board → (ℕ → ℕ) → List (List ℕ)
each_line b of = map (line b of) (range_with_len 0 (side b))

-- all rows, then all columns, then all boxes
abbrev pub lines : Board → List (List ℕ)
lines b = each_line b (row_of b) ++ (each_line b (column_of b) ++ each_line b (box_of b))

-- each element with each later one, the earlier of two firsts before the later
abbrev pub pairs : {X : Type 0} → List X → List (X × X)
pairs [] = []
pairs (x ∷ xs) = map (λ y. (x, y)) xs ++ pairs xs

abbrev pub two_by_two : Board
two_by_two = record { height = 2; width = 2; tall = lit≤ tt; wide = lit≤ tt; small = lit≤ tt }

abbrev pub three_by_three : Board
three_by_three = record { height = 3; width = 3; tall = lit≤ tt; wide = lit≤ tt; small = lit≤ tt }

-- the board that has the side n, where there is one
abbrev pub board_of : ℕ → Option Board
board_of n = cond (n == 4) (Some two_by_two) (cond (n == 9) (Some three_by_three) None)
