-- What comes of writing a board with one part as a clause text.
use Rattle.std.specs.Prelude.{◌≡◌, ℕ, ◌+◌, ◌-◌, cond, List, ◌++◌, length, ℤ, Some, None, Ok, Err, vec_items, sum_by, Option, Result, Vec, nat_le}
use Rattle.std.specs.Option.{option_or}
use Rattle.std.specs.declared.alloc.Global.{Global}
use Rattle.spelling.specs.Text.{text_charge}
use Rattle.places.specs.declared.fault.PlaceFault.{PlaceFault}
use Rattle.places.specs.declared.fault.PlaceFault.TheVariants.{NoSpace}
use Rattle.places.specs.Written.{fitting}
use Rattle.clause_text.specs.declared.fault.WriteFault.{WriteFault}
use Rattle.clause_text.specs.declared.fault.WriteFault.TheVariants as writing
use Rattle.clause_text.specs.Writing.{cnf}
use Rattle.totals.specs.Totaller.{Totaller}
use Rattle.boards.specs.declared.board.Board.{Board}
use Rattle.boards.specs.Atoms.{cell_variables}
use Rattle.boards.specs.Base.{base_clauses}
use Rattle.parts.specs.declared.fault.KindFault.{KindFault}
use Rattle.meanings.specs.Kind.{Kind}
use Rattle.kinds.specs.Answers.{carried, part_clauses, write_fault}
use Rattle.part_text.specs.declared.fault.PartFault.{PartFault}
use Rattle.part_text.specs.declared.fault.PartFault.TheVariants as part
use Rattle.part_text.specs.declared.part.Part.{Part}
use Rattle.part_text.specs.Board.{board}

-- the first fresh number is the first behind those of the cells
abbrev pub first_fresh : Board → ℕ
first_fresh b = cell_variables b + 1

-- the part's own clauses
abbrev pub own_clauses : Kind → Totaller → Board → ℕ → List ℕ → List (List ℤ)
own_clauses 𝓚 𝓣 b total body = part_clauses 𝓚 𝓣 b total body (first_fresh b)

-- how many variables there are
abbrev pub last_variable : Kind → Totaller → Board → ℕ → List ℕ → ℕ
last_variable 𝓚 𝓣 b total body = cell_variables b + 𝓚.fresh_count 𝓣 b total body

-- that there is no room for the clauses of the empty board
abbrev pub base_fault : Board → ℕ → Option PlaceFault
base_fault b room = cond (nat_le (sum_by text_charge (base_clauses b)) room) None (Some (NoSpace (fitting text_charge room (base_clauses b))))

-- that there is no room behind them for the clauses cs; where the clause that does not fit is the totaller's, the fault comes by way of it
abbrev pub room_fault : Kind → Totaller → Board → ℕ → List ℕ → List (List ℤ) → ℕ → Option KindFault
room_fault 𝓚 𝓣 b total body cs left =
    cond (nat_le (sum_by text_charge cs) left) None
    (Some (carried (𝓚.summed 𝓣 b total body (fitting text_charge left cs)) (NoSpace (length (base_clauses b) + fitting text_charge left cs))))

-- the first that is wrong with the part
abbrev pub part_fault : Kind → Totaller → Board → ℕ → List ℕ → ℕ → Option KindFault
part_fault 𝓚 𝓣 b total body room =
    option_or (write_fault 𝓚 𝓣 b total body (first_fresh b))
    (room_fault 𝓚 𝓣 b total body (own_clauses 𝓚 𝓣 b total body) (room - sum_by text_charge (base_clauses b)))

-- the board and the part are written, or refused, in so much room; or memory is wanting
abbrev pub WrittenOn : Kind → Totaller → Board → ℕ → List ℕ → ℕ → Result (Vec ℕ Global) (WriteFault PartFault) → Type 0
WrittenOn 𝓚 𝓣 b total body room (Ok text) =
    (base_fault b room ≡ None) × (part_fault 𝓚 𝓣 b total body room ≡ None) ×
    (vec_items text ≡ cnf (last_variable 𝓚 𝓣 b total body) (base_clauses b ++ own_clauses 𝓚 𝓣 b total body))
WrittenOn 𝓚 𝓣 b total body room (Err (writing.Refused (part.Base f))) = base_fault b room ≡ Some f
WrittenOn 𝓚 𝓣 b total body room (Err (writing.Refused (part.Kind f))) = (base_fault b room ≡ None) × (part_fault 𝓚 𝓣 b total body room ≡ Some f)
WrittenOn 𝓚 𝓣 b total body room (Err writing.Memory) = Unit {0}

abbrev pub Written : Kind → Totaller → Part → ℕ → Result (Vec ℕ Global) (WriteFault PartFault) → Type 0
Written 𝓚 𝓣 p room r = WrittenOn 𝓚 𝓣 (board p.side) p.total (vec_items p.body) room r
