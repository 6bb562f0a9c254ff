-- An adder network over variables that are given by their numbers.
use Rattle.std.specs.Prelude.{ℕ, zero, suc, ◌+◌, ◌-◌, ◌*◌, ◌/◌, List, [], ◌∷◌, ◌++◌, length, ℤ, slice_index}
use Rattle.formulas.specs.Numbered.{plain}
use Rattle.totals.specs.Adders.{Adder, full, half, Network, Reduced, lines, reduce, wired, with_bit}

-- the clauses of adders one after the other, the first of which has the sum n
abbrev pub wiring : ℕ → List (Adder ℕ) → List (List ℤ)
wiring n gs = plain (wired (λ j. j) n gs)

-- what a line comes to, where n is the next fresh number
abbrev pub reduced : List ℕ → ℕ → Reduced ℕ
reduced ls n = reduce (λ j. j) (length ls) ls n

-- the adder that takes a line's first variables; the line has two at least
abbrev pub first_adder : List ℕ → Adder ℕ
first_adder (a ∷ b ∷ c ∷ ls) = full a b c
first_adder (a ∷ b ∷ []) = half a b
first_adder (a ∷ []) = half a a
first_adder [] = half 0 0

-- every second number from n on, c of them: so the carries of a line are numbered
abbrev pub seconds : ℕ → ℕ → List ℕ
seconds n zero = []
seconds n (suc c) = n ∷ seconds (n + 2) c

-- the variables of line k: those of the items whose weight has bit k, and then the carries of the line below,
-- c of them, whose adders had the fresh numbers from b on
abbrev pub line_of : List ℕ → List ℕ → ℕ → ℕ → ℕ → List ℕ
line_of vs ws k b c = with_bit (λ i. slice_index vs i) k 0 ws ++ seconds (b + 1) c

-- line k has an adder for every two variables
abbrev pub adders_in : ℕ → List ℕ → ℕ → ℕ
adders_in k ws c = (length (with_bit (λ i. i) k 0 ws) + c) / 2

-- the lines from line k on, of the eleven
unfoldable pub lines_from : List ℕ → List ℕ → ℕ → ℕ → ℕ → Network ℕ
lines_from vs ws k b c = lines (λ i. slice_index vs i) (λ j. j) (11 - k) k ws (seconds (b + 1) c) (b + 2 * c)

-- how many adders m lines from line k on have, where c carries come in from below
abbrev pub adder_count : ℕ → ℕ → List ℕ → ℕ → ℕ
adder_count zero k ws c = 0
adder_count (suc m) k ws c = adders_in k ws c + adder_count m (k + 1) ws (adders_in k ws c)

-- the same of the lines from line k on, of the eleven
unfoldable pub count_from : List ℕ → ℕ → ℕ → ℕ
count_from ws k c = adder_count (11 - k) k ws c
