-- What each draft says: each cell has one digit, and no row, column or box repeats one.
use Rattle.std.specs.Prelude.{ℕ, ◌+◌, ◌-◌, List, [], ◌∷◌, ◌++◌, map, ℤ}
use Rattle.std.specs.List.{range_with_len, flat_map}
use Rattle.formulas.specs.Formula.{is, isnt, Clause, Formula}
use Rattle.formulas.specs.Numbered.{numbered}
use Rattle.boards.specs.declared.board.Board.{Board}
use Rattle.boards.specs.Board.{side, cells, lines, pairs}
use Rattle.boards.specs.Atoms.{Atom, at, number, cell_variables}

abbrev pub not_both : Atom → Atom → Clause Atom
not_both p q = isnt p ∷ isnt q ∷ []

-- the cell c has a digit
abbrev pub some_digit : Board → ℕ → Clause Atom
some_digit b c = map (λ d. is (at c d)) (range_with_len 1 (side b))

-- a cell that has the digit d has none of the larger ones
abbrev pub no_later_digit : Board → ℕ → ℕ → Formula Atom
no_later_digit b c d = map (λ e. not_both (at c d) (at c e)) (range_with_len (d + 1) (side b - d))

-- the cell c has no two digits
abbrev pub no_two_digits : Board → ℕ → Formula Atom
no_two_digits b c = map (λ p. not_both (at c p.0) (at c p.1)) (pairs (range_with_len 1 (side b)))

-- two cells do not have the same digit
abbrev pub not_same : Board → ℕ × ℕ → Formula Atom
not_same b p = map (λ d. not_both (at p.0 d) (at p.1 d)) (range_with_len 1 (side b))

-- the cell c has the same digit as none of the cells l
abbrev pub differs : Board → ℕ → List ℕ → Formula Atom
differs b c l = flat_map (λ q. not_same b (c, q)) l

-- no two of the cells l have the same digit
abbrev pub no_repeat : Board → List ℕ → Formula Atom
no_repeat b l = flat_map (not_same b) (pairs l)

abbrev pub some_digit_each : Board → Formula Atom
some_digit_each b = map (some_digit b) (range_with_len 0 (cells b))

abbrev pub one_digit_each : Board → Formula Atom
one_digit_each b = flat_map (no_two_digits b) (range_with_len 0 (cells b))

abbrev pub each_line_apart : Board → Formula Atom
each_line_apart b = flat_map (no_repeat b) (lines b)

abbrev pub base : Board → Formula Atom
base b = some_digit_each b ++ (one_digit_each b ++ each_line_apart b)

-- a formula in clauses, where the cells' variables come before the fresh ones
abbrev pub clauses_of : Board → Formula Atom → List (List ℤ)
clauses_of b f = numbered (number b (cell_variables b)) f

-- the clauses of an empty board
abbrev pub base_clauses : Board → List (List ℤ)
base_clauses b = clauses_of b (base b)
