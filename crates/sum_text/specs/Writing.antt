-- What comes of writing a sum as a clause text.
use Rattle.std.specs.Prelude.{◌≡◌, ℕ, ◌+◌, ◌-◌, cond, List, ℤ, Some, None, Ok, Err, vec_items, sum_by, Option, Result, Vec, nat_le}
use Rattle.std.specs.Option.{option_or}
use Rattle.std.specs.declared.alloc.Global.{Global}
use Rattle.spelling.specs.Text.{text_charge}
use Rattle.places.specs.declared.fault.PlaceFault.TheVariants.{NoSpace}
use Rattle.places.specs.Written.{fitting}
use Rattle.clause_text.specs.declared.fault.WriteFault.{WriteFault}
use Rattle.clause_text.specs.declared.fault.WriteFault.TheVariants as writing
use Rattle.clause_text.specs.Writing.{cnf}
use Rattle.totals.specs.Totaller.{Totaller}
use Rattle.totallers.specs.declared.fault.TotallerFault.{TotallerFault}
use Rattle.totallers.specs.declared.fault.TotallerFault.TheVariants.{Place}
use Rattle.totallers.specs.Writing.{ready_fault, sum_clauses}
use Rattle.sum_text.specs.declared.sum.OwnedSum.{OwnedSum}

-- the clauses of a sum
abbrev pub clauses : Totaller → OwnedSum → List (List ℤ)
clauses 𝓣 s = sum_clauses 𝓣 (vec_items s.variables) (vec_items s.weights) s.target s.first

-- the greatest variable: the last fresh one, or the last before them where none is fresh
abbrev pub last_variable : Totaller → OwnedSum → ℕ
last_variable 𝓣 s = s.first - 1 + 𝓣.fresh_count (vec_items s.weights) s.target

-- that there is no room for all the clauses
abbrev pub room_fault : List (List ℤ) → ℕ → Option TotallerFault
room_fault cs room = cond (nat_le (sum_by text_charge cs) room) None (Some (Place (NoSpace (fitting text_charge room cs))))

-- the first that is wrong
abbrev pub sum_fault : Totaller → OwnedSum → ℕ → Option TotallerFault
sum_fault 𝓣 s room =
    option_or (ready_fault 𝓣 (vec_items s.variables) (vec_items s.weights) s.target s.first) (room_fault (clauses 𝓣 s) room)

-- the sum is written, or refused, in so much room; or memory is wanting
abbrev pub Written : Totaller → OwnedSum → ℕ → Result (Vec ℕ Global) (WriteFault TotallerFault) → Type 0
Written 𝓣 s room (Ok text) = (sum_fault 𝓣 s room ≡ None) × (vec_items text ≡ cnf (last_variable 𝓣 s) (clauses 𝓣 s))
Written 𝓣 s room (Err (writing.Refused f)) = sum_fault 𝓣 s room ≡ Some f
Written 𝓣 s room (Err writing.Memory) = Unit {0}
