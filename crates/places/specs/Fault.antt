-- The number, the layer and the position that a fault is reported by.
use Rattle.std.specs.Prelude.{ℕ}
use Rattle.places.specs.declared.fault.Refusal.{Refusal}
use Rattle.places.specs.declared.fault.Layer.TheVariants.{Place}
use Rattle.places.specs.declared.fault.PlaceFault.{PlaceFault}
use Rattle.places.specs.declared.fault.PlaceFault.TheVariants.{ClauseLength, Literal, NoSpace}

-- what a place reports
abbrev pub by_place : ℕ → ℕ → Refusal
by_place number position = record { number = number; layer = Place; position = position }

abbrev pub refusal : PlaceFault → Refusal
refusal ClauseLength = by_place 9 0
refusal (Literal index) = by_place 9 index
refusal (NoSpace held) = by_place 25 held
