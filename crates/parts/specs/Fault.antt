-- The number, the layer and the position that a fault is reported by.
use Rattle.std.specs.Prelude.{ℕ}
use Rattle.places.specs.declared.fault.Refusal.{Refusal}
use Rattle.places.specs.declared.fault.Layer.TheVariants.{Kind}
use Rattle.places.specs.Fault as place
use Rattle.totallers.specs.Fault as totaller
use Rattle.parts.specs.declared.fault.KindFault.{KindFault}
use Rattle.parts.specs.declared.fault.KindFault.TheVariants.{Apart, BodyLength, Cell, Character, FirstNumber, GridDigit, GridLength, Place, Repeated, Total, Totaller}

-- what a kind reports of its own
abbrev pub by_kind : ℕ → ℕ → Refusal
by_kind number position = record { number = number; layer = Kind; position = position }

-- a fault from below comes as it is reported there
abbrev pub refusal : KindFault → Refusal
refusal BodyLength = by_kind 2 0
refusal (Character index) = by_kind 3 index
refusal (Cell index) = by_kind 4 index
refusal (Repeated index) = by_kind 5 index
refusal (Apart index) = by_kind 6 index
refusal Total = by_kind 7 0
refusal FirstNumber = by_kind 8 0
refusal GridLength = by_kind 12 0
refusal (GridDigit index) = by_kind 13 index
refusal (Totaller fault) = totaller.refusal fault
refusal (Place fault) = place.refusal fault
