-- The number, the layer and the position that a fault is reported by.
use Rattle.places.specs.declared.fault.Refusal.{Refusal}
use Rattle.places.specs.Fault as place
use Rattle.parts.specs.Fault as kind
use Rattle.part_text.specs.declared.fault.PartFault.{PartFault}
use Rattle.part_text.specs.declared.fault.PartFault.TheVariants.{Base, Kind}

-- each fault comes as the layer below reports it
abbrev pub refusal : PartFault → Refusal
refusal (Base fault) = place.refusal fault
refusal (Kind fault) = kind.refusal fault
