-- What comes of opening a draft.
use Rattle.std.specs.Prelude.{◌≡◌, ℕ, ◌+◌, cond, List, length, ℤ, Some, None, Ok, Err, sum_by, Option, Result, ◌==◌, nat_le}
use Rattle.places.specs.declared.fault.Refusal.{Refusal}
use Rattle.places.specs.declared.fault.PlaceFault.TheVariants.{NoSpace}
use Rattle.places.specs.declared.place.Place.{Ghosts}
use Rattle.places.specs.Fault.{by_place}
use Rattle.places.specs.Written.{fitting}
use Rattle.boards.specs.declared.board.Board.{Board}
use Rattle.boards.specs.Atoms.{cell_variables}
use Rattle.boards.specs.Base.{base_clauses}
use Rattle.boards.specs.Board.{board_of}
use Rattle.draft.specs.declared.fault.DraftFault.{DraftFault}
use Rattle.draft.specs.declared.fault.DraftFault.TheVariants.{Side, NotEmpty, Place}
use Rattle.draft.specs.declared.state.Draft.{Draft}
use Rattle.draft.specs.Fault.{by_draft}

-- the first that is wrong: the side; the place, which has to be empty; its space, for the charges together
abbrev pub open_fault_on : (List ℤ → ℕ) → Option Board → List (List ℤ) → ℕ → Option DraftFault
open_fault_on charge None held free = Some Side
open_fault_on charge (Some b) held free =
    cond (length held == 0)
    (cond (nat_le (sum_by charge (base_clauses b)) free) None (Some (Place (NoSpace (fitting charge free (base_clauses b))))))
    (Some NotEmpty)

abbrev pub open_fault : {P : Type 0} → Ghosts P → ℕ → P → Option DraftFault
open_fault place side p = open_fault_on place.charge (board_of side) (place.held p) (place.free p)

-- the same as it is reported: 1, 21 or 25
abbrev pub open_refusal_on : (List ℤ → ℕ) → Option Board → List (List ℤ) → ℕ → Option Refusal
open_refusal_on charge None held free = Some (by_draft 1)
open_refusal_on charge (Some b) held free =
    cond (length held == 0)
    (cond (nat_le (sum_by charge (base_clauses b)) free) None (Some (by_place 25 (fitting charge free (base_clauses b)))))
    (Some (by_draft 21))

abbrev pub open_refusal : {P : Type 0} → Ghosts P → ℕ → P → Option Refusal
open_refusal place side p = open_refusal_on place.charge (board_of side) (place.held p) (place.free p)

-- a new draft has the board of the side, and its place holds the base clauses; a refusal changes nothing
abbrev pub Opened : {P : Type 0} → Ghosts P → ℕ → P → P → Result Draft DraftFault → Type 0
Opened place side p q (Ok d) =
    (board_of side ≡ Some d.board) × (d.variables ≡ cell_variables d.board) × (place.held q ≡ base_clauses d.board) ×
    (place.free q + sum_by place.charge (base_clauses d.board) ≡ place.free p)
Opened place side p q (Err f) = (place.held q ≡ place.held p) × (place.free q ≡ place.free p)
