-- The clauses of a board under rules, with every variable numbered.
use Rattle.std.specs.Prelude.{ℕ, ◌+◌, List, [], ◌∷◌, ◌++◌, ℤ}
use Rattle.formulas.specs.Numbered.{numbered}
use Rattle.boards.specs.declared.board.Board.{Board}
use Rattle.boards.specs.Atoms.{cell_variables, number}
use Rattle.boards.specs.Base.{base, clauses_of}
use Rattle.rules.specs.Rule.{Rule}

-- how many fresh variables the rules have together
abbrev pub fresh_total : List Rule → ℕ
fresh_total [] = 0
fresh_total (r ∷ rs) = r.fresh_count + fresh_total rs

-- the rules' clauses one after another, where so many variables are numbered before: each rule's fresh variables follow
-- those of the rules before it
abbrev pub rule_clauses : Board → ℕ → List Rule → List (List ℤ)
rule_clauses b before [] = []
rule_clauses b before (r ∷ rs) = numbered (number b before) r.formula ++ rule_clauses b (before + r.fresh_count) rs

-- the base clauses, and then the rules'
abbrev pub clauses : Board → List Rule → List (List ℤ)
clauses b rs = clauses_of b (base b) ++ rule_clauses b (cell_variables b) rs

-- how many variables there are in all
abbrev pub variables : Board → List Rule → ℕ
variables b rs = cell_variables b + fresh_total rs
