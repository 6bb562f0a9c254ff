-- The number, the layer and the position that a fault is reported by.
use Rattle.std.specs.Prelude.{ℕ}
use Rattle.places.specs.declared.fault.Refusal.{Refusal}
use Rattle.places.specs.declared.fault.Layer.TheVariants.{Totaller}
use Rattle.places.specs.Fault as place
use Rattle.totallers.specs.declared.fault.TotallerFault.{TotallerFault}
use Rattle.totallers.specs.declared.fault.TotallerFault.TheVariants.{Items, Item, NotTaken, FreshNumber, Place}

-- what a totaller reports of its own
abbrev pub by_totaller : ℕ → ℕ → Refusal
by_totaller number position = record { number = number; layer = Totaller; position = position }

-- the place's fault comes as the place reports it
abbrev pub refusal : TotallerFault → Refusal
refusal Items = by_totaller 8 0
refusal (Item index) = by_totaller 8 index
refusal (NotTaken items) = by_totaller 23 items
refusal FreshNumber = by_totaller 24 0
refusal (Place fault) = place.refusal fault
