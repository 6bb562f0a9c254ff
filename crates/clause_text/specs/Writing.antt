-- A clause text.
use Rattle.std.specs.Prelude.{ℕ, List, ◌++◌, length, ℤ}
use Rattle.spelling.specs.Text.{heading, spelled_text}

-- a heading, with the greatest variable, and a line for each clause
abbrev pub cnf : ℕ → List (List ℤ) → List ℕ
cnf last cs = heading last (length cs) ++ spelled_text cs
