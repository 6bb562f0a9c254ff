-- Tests of a part's body and of a grid. Each tells the first entry that offends.
use Rattle.std.specs.Prelude.{ℕ, ◌+◌, ◌-◌, Bool, cond, not, ◌&&◌, List, [], ◌∷◌, length, take, Some, None, Option, ◌==◌, nat_le, slice_index}
use Rattle.std.specs.List.{list_any, range_with_len}
use Rattle.boards.specs.declared.board.Board.{Board}
use Rattle.boards.specs.Atoms.{cell_variables}
use Rattle.boards.specs.Board.{cells, column_of, row_of, side}
use Rattle.parts.specs.declared.fault.KindFault.{KindFault}
use Rattle.parts.specs.declared.fault.KindFault.TheVariants.{Apart, BodyLength, Cell, FirstNumber, GridDigit, GridLength, Repeated}

-- the fault of the first index that is bad
abbrev pub first_fault : (ℕ → Bool) → (ℕ → KindFault) → List ℕ → Option KindFault
first_fault bad fault [] = None
first_fault bad fault (i ∷ is) = cond (bad i) (Some (fault i)) (first_fault bad fault is)

-- the same over all indices of a list
abbrev pub index_fault : (ℕ → Bool) → (ℕ → KindFault) → List ℕ → Option KindFault
index_fault bad fault xs = first_fault bad fault (range_with_len 0 (length xs))

abbrev pub length_fault : ℕ → ℕ → List ℕ → Option KindFault
length_fault least most body = cond (nat_le least (length body) && nat_le (length body) most) None (Some BodyLength)

-- the cell at i lies beyond the board
abbrev pub beyond : Board → List ℕ → ℕ → Bool
beyond b body i = nat_le (cells b) (slice_index body i)

abbrev pub cell_fault : Board → List ℕ → Option KindFault
cell_fault b body = index_fault (beyond b body) Cell body

-- x is one of the list
abbrev pub has : ℕ → List ℕ → Bool
has x ys = list_any (λ y. y == x) ys

-- the cell at i stands before it
abbrev pub repeated : List ℕ → ℕ → Bool
repeated body i = has (slice_index body i) (take i body)

abbrev pub repeat_fault : List ℕ → Option KindFault
repeat_fault body = index_fault (repeated body) Repeated body

-- at most one apart
abbrev pub near : ℕ → ℕ → Bool
near m n = nat_le m (n + 1) && nat_le n (m + 1)

-- two cells touch by a side or a corner
abbrev pub touch : Board → ℕ → ℕ → Bool
touch b p q = near (row_of b p) (row_of b q) && near (column_of b p) (column_of b q)

-- the cell at i does not touch the one before it
abbrev pub apart : Board → List ℕ → ℕ → Bool
apart b body i = nat_le 1 i && not (touch b (slice_index body (i - 1)) (slice_index body i))

abbrev pub apart_fault : Board → List ℕ → Option KindFault
apart_fault b body = index_fault (apart b body) Apart body

-- a digit of the board
abbrev pub digit : Board → ℕ → Bool
digit b d = nat_le 1 d && nat_le d (side b)

abbrev pub grid_fault : Board → List ℕ → Option KindFault
grid_fault b g = cond (length g == cells b) (index_fault (λ i. not (digit b (slice_index g i))) GridDigit g) (Some GridLength)

-- the fresh numbers begin at f, and this is the number of a cell's variable
abbrev pub first_number_fault : Board → ℕ → Option KindFault
first_number_fault b f = cond (nat_le f (cell_variables b)) (Some FirstNumber) None
