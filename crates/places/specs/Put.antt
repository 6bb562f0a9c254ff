-- What a place answers to a clause.
use Rattle.std.specs.Prelude.{ℕ, cond, List, length, ℤ, Some, None, Option, nat_le}
use Rattle.std.specs.Option.{option_or}
use Rattle.std.specs.List.{prefix_len}
use Rattle.formulas.specs.Clause.{every, usable, right_length}
use Rattle.places.specs.declared.fault.Refusal.{Refusal}
use Rattle.places.specs.declared.fault.PlaceFault.{PlaceFault}
use Rattle.places.specs.declared.fault.PlaceFault.TheVariants.{ClauseLength, Literal, NoSpace}
use Rattle.places.specs.Fault.{by_place}

-- what is wrong with a clause, wherever it is put: `prefix_len usable c` is the index of its first literal that is not usable
abbrev pub clause_fault : List ℤ → Option PlaceFault
clause_fault c = cond (right_length c) (cond (every usable c) None (Some (Literal (prefix_len usable c)))) (Some ClauseLength)

-- why a place that holds `held` and has the space `free` left refuses a clause, if it does
abbrev pub put_fault : (List ℤ → ℕ) → List ℤ → List (List ℤ) → ℕ → Option PlaceFault
put_fault charge c held free = option_or (clause_fault c) (cond (nat_le (charge c) free) None (Some (NoSpace (length held))))

-- the same as it is reported: 9 for the clause's length, 9 at the first literal that is not usable, 25 at the count of the clauses held
abbrev pub put_refusal : (List ℤ → ℕ) → List ℤ → List (List ℤ) → ℕ → Option Refusal
put_refusal charge c held free =
    cond (right_length c)
    (cond (every usable c) (cond (nat_le (charge c) free) None (Some (by_place 25 (length held)))) (Some (by_place 9 (prefix_len usable c))))
    (Some (by_place 9 0))
