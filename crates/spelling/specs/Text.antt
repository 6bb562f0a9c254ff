-- Clauses as text: a line for each, its literals in base ten, each followed by a space, and then `0`.
use Rattle.std.specs.Prelude.{ℕ, Bool, List, [], ◌∷◌, ◌++◌, map, length, ℤ, codes, decimal, ◌==◌}
use Rattle.std.specs.List.{flat_map}
use Rattle.std.specs.Str.Parse.{signed_digits_value}
use Rattle.std.specs.Fmt.{signed_decimal}
use Rattle.spelling.specs.Spelling.{pieces}
use Rattle.spelling.specs.Store.{Spelling}

-- the literals, as `{}` writes them, each with the space after it
abbrev pub spaced : List ℤ → List ℕ
spaced c = flat_map (λ l. signed_decimal l ++ 32 ∷ []) c

-- a line without its line feed
abbrev pub text_body : List ℤ → List ℕ
text_body c = spaced c ++ 48 ∷ []

abbrev pub text_line : List ℤ → List ℕ
text_line c = text_body c ++ 10 ∷ []

abbrev pub spelled_text : List (List ℤ) → List ℕ
spelled_text cs = flat_map text_line cs

abbrev pub is_space : ℕ → Bool
is_space b = b == 32

abbrev pub is_line_feed : ℕ → Bool
is_line_feed b = b == 10

-- the literals that a space follows, as `parse` reads them
abbrev pub literals_in : List ℕ → List ℤ
literals_in bs = map (signed_digits_value 10) (pieces is_space bs)

abbrev pub clauses_in_text : List ℕ → List (List ℤ)
clauses_in_text bs = map literals_in (pieces is_line_feed bs)

abbrev pub text_charge : List ℤ → ℕ
text_charge c = length (text_line c)

-- clauses as lines of text
abbrev pub text : Spelling ℕ
text = record { blank = 0; mark = 10; body = text_body; read = clauses_in_text; charge = text_charge }

-- the first line of a clause text: how many variables and how many clauses it has
abbrev pub heading : ℕ → ℕ → List ℕ
heading variables clauses = codes "p cnf " ++ decimal variables ++ codes " " ++ decimal clauses ++ codes "\n"
