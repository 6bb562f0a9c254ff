-- The words of a line, and what is known of a text before its end.
use Rattle.std.specs.Prelude.{◌≡◌, ℕ, List, [], ◌∷◌, ◌++◌, Some, None, Ok, Err, Option, Result}
use Rattle.desk.specs.declared.statement.Reason.{Reason}
use Rattle.desk.specs.declared.statement.SideLine.{SideLine}
use Rattle.desk.specs.declared.statement.Statement.{Statement}
use Rattle.desk.specs.declared.statement.Statement.TheVariants.{Side}
use Rattle.desk.specs.declared.statement.TextFault.{TextFault}
use Rattle.desk.specs.DraftText.{Said, numbered, verdict}

-- the first word, or nothing
abbrev pub first : List (List ℕ) → List ℕ
first [] = []
first (w ∷ ws) = w

-- what has been said so far
abbrev pub front : Option SideLine → List (ℕ × Result Statement Reason)
front None = []
front (Some s) = (s.line, Ok (Side s.side)) ∷ []

-- one more line is read: the verdict on all lines follows from what is now known and the rest, or is known already
abbrev pub Advances : Option SideLine → ℕ → Said → Result (Option SideLine) TextFault → Type 0
Advances found line s (Ok found') =
    (last : ℕ) (rest : List (ℕ × Result Statement Reason)) → verdict last (front found ++ numbered line s rest) ≡ verdict last (front found' ++ rest)
Advances found line s (Err e) = (last : ℕ) (rest : List (ℕ × Result Statement Reason)) → verdict last (front found ++ numbered line s rest) ≡ Err e
