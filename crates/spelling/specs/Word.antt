-- Clauses as words: the literals of each, and then 0.
use Rattle.std.specs.Prelude.{ℕ, ◌+◌, Bool, List, [], ◌∷◌, ◌++◌, length, ℤ, pos, ◌==◌, unsigned_abs}
use Rattle.std.specs.List.{flat_map}
use Rattle.spelling.specs.Spelling.{pieces}
use Rattle.spelling.specs.Store.{Spelling}

abbrev pub word_line : List ℤ → List ℤ
word_line c = c ++ (pos 0 ∷ [])

abbrev pub spelled_words : List (List ℤ) → List ℤ
spelled_words cs = flat_map word_line cs

abbrev pub is_zero : ℤ → Bool
is_zero w = unsigned_abs w == 0

abbrev pub clauses_in_words : List ℤ → List (List ℤ)
clauses_in_words ws = pieces is_zero ws

abbrev pub word_charge : List ℤ → ℕ
word_charge c = length c + 1

-- clauses as words
abbrev pub words : Spelling ℤ
words = record { blank = pos 0; mark = pos 0; body = λ c. c; read = clauses_in_words; charge = word_charge }
