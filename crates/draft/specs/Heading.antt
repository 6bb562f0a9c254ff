-- What comes of a heading that is written at a buffer's start.
use Rattle.std.specs.Prelude.{ℕ, cond, List, length, Some, None, Option, nat_le}
use Rattle.draft.specs.declared.fault.DraftFault.{DraftFault}
use Rattle.draft.specs.declared.fault.DraftFault.TheVariants.{HeadingLength}

-- it fits, or it does not
abbrev pub heading_fault : List ℕ → List ℕ → Option DraftFault
heading_fault h buffer = cond (nat_le (length h) (length buffer)) None (Some HeadingLength)

abbrev pub heading_length : List ℕ → List ℕ → Option ℕ
heading_length h buffer = cond (nat_le (length h) (length buffer)) (Some (length h)) None
