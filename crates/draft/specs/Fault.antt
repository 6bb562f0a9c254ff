-- The number, the layer and the position that a fault is reported by.
use Rattle.std.specs.Prelude.{ℕ}
use Rattle.places.specs.declared.fault.Refusal.{Refusal}
use Rattle.places.specs.declared.fault.Layer.TheVariants.{Draft}
use Rattle.places.specs.Fault as place
use Rattle.draft.specs.declared.fault.DraftFault.{DraftFault}
use Rattle.draft.specs.declared.fault.DraftFault.TheVariants.{Side, NotEmpty, HeadingLength, Place}

-- what a draft reports of its own
abbrev pub by_draft : ℕ → Refusal
by_draft number = record { number = number; layer = Draft; position = 0 }

-- the place's fault comes as the place reports it
abbrev pub refusal : DraftFault → Refusal
refusal Side = by_draft 1
refusal NotEmpty = by_draft 21
refusal HeadingLength = by_draft 12
refusal (Place fault) = place.refusal fault
