-- How many words a sum takes.
use Rattle.std.specs.Prelude.{ℕ, cond, List, length, ℤ, Some, None, sum_by, Option, nat_le}
use Rattle.spelling.specs.Word.{spelled_words, word_charge}
use Rattle.totals.specs.Totaller.{Totaller}
use Rattle.totallers.specs.declared.fault.TotallerFault.{TotallerFault}
use Rattle.totallers.specs.Writing.{ready_fault, sum_clauses}

-- the words of the clauses, if nothing is wrong before the first of them and there is room for all
abbrev pub words_by : Option TotallerFault → List (List ℤ) → ℕ → ℕ
words_by None cs room = cond (nat_le (sum_by word_charge cs) room) (length (spelled_words cs)) 0
words_by (Some e) cs room = 0

abbrev pub words_of : Totaller → List ℕ → List ℕ → ℕ → ℕ → ℕ → ℕ
words_of 𝓣 vs ws t f room = words_by (ready_fault 𝓣 vs ws t f) (sum_clauses 𝓣 vs ws t f) room
