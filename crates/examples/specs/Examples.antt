-- The one list of worked examples.
use Rattle.std.specs.Prelude.{◌≡◌, ℕ, ◌+◌, ◌-◌, Bool, true, false, ◌&&◌, List, [], ◌∷◌, length, ℤ, pos, negsuc, Some, None, Option, ◌==◌, slice_index_or}
use Rattle.std.specs.List.{range_with_len, flat_map}
use Rattle.formulas.specs.Clause.{every}
use Rattle.totals.specs.Running.{running}
use Rattle.totals.specs.Totaller.{Totaller}
use Rattle.totallers.specs.declared.fault.TotallerFault.{TotallerFault}
use Rattle.totallers.specs.Fault.{refusal}
use Rattle.totallers.specs.Writing.{ready_fault, sum_clauses}
use Rattle.boards.specs.declared.board.Board.{Board}
use Rattle.boards.specs.Atoms.{cell_variables}
use Rattle.boards.specs.Board.{three_by_three, two_by_two}
use Rattle.boards.specs.Base.{base_clauses}

-- what an example says
pub data Example : Type 0 where
  -- a new draft on the board has so many variables and so many clauses
  counts : Board → ℕ → ℕ → Example
  -- its first clause, and its last
  first : Board → List ℤ → Example
  last : Board → List ℤ → Example
  -- a sum over these variables, weights, target and first fresh number has so many variables in all, and so many clauses
  sum_counts : Totaller → List ℕ → List ℕ → ℕ → ℕ → ℕ → ℕ → Example
  -- what is wrong with such a sum: number and position, or nothing
  sum_wrong : Totaller → List ℕ → List ℕ → ℕ → ℕ → List ℕ → Example

abbrev pub same_literal : ℤ → ℤ → Bool
same_literal (pos m) (pos n) = m == n
same_literal (pos m) (negsuc n) = false
same_literal (negsuc m) (pos n) = false
same_literal (negsuc m) (negsuc n) = m == n

abbrev pub same_clause : List ℤ → List ℤ → Bool
same_clause [] [] = true
same_clause [] (k ∷ d) = false
same_clause (l ∷ c) [] = false
same_clause (l ∷ c) (k ∷ d) = same_literal l k && same_clause c d

abbrev pub same_numbers : List ℕ → List ℕ → Bool
same_numbers [] [] = true
same_numbers [] (y ∷ ys) = false
same_numbers (x ∷ xs) [] = false
same_numbers (x ∷ xs) (y ∷ ys) = x == y && same_numbers xs ys

-- a fault's number and position
abbrev pub told : Option TotallerFault → List ℕ
told None = []
told (Some e) = (refusal e).number ∷ (refusal e).position ∷ []

abbrev pub holds : Example → Bool
holds (counts b variables clauses) = cell_variables b == variables && length (base_clauses b) == clauses
holds (first b c) = same_clause (slice_index_or (base_clauses b) 0 []) c
holds (last b c) = same_clause (slice_index_or (base_clauses b) (length (base_clauses b) - 1) []) c
holds (sum_counts 𝓣 vs ws t f variables clauses) =
    (f - 1 + 𝓣.fresh_count ws t == variables) && length (sum_clauses 𝓣 vs ws t f) == clauses
holds (sum_wrong 𝓣 vs ws t f expected) = same_numbers (told (ready_fault 𝓣 vs ws t f)) expected

-- the items of the first eight cells of a board of side 9: each digit in each cell, with the digit as weight
abbrev pub eight_cells : List ℕ
eight_cells = flat_map (λ c. range_with_len 1 9) (range_with_len 0 8)

-- -60 is written `negsuc 59`
abbrev pub examples : List Example
examples =
    counts two_by_two 64 400 ∷
    first two_by_two (pos 1 ∷ pos 2 ∷ pos 3 ∷ pos 4 ∷ []) ∷
    last two_by_two (negsuc 59 ∷ negsuc 63 ∷ []) ∷
    counts three_by_three 729 11745 ∷
    sum_counts running (1 ∷ 2 ∷ []) (1 ∷ 1 ∷ []) 1 3 8 17 ∷
    sum_wrong running (range_with_len 1 72) eight_cells 40 730 [] ∷
    sum_wrong running (range_with_len 1 72) eight_cells 41 730 (23 ∷ 72 ∷ []) ∷
    []

abbrev pub Examples : Type 0
Examples = every holds examples ≡ true
