-- What a word says.
use Rattle.std.specs.Prelude.{◌≡◌, ℕ, List, Ok, Err, Result}

-- the word is read as `from_str` reads it, or the fault f is told where that refuses it
abbrev pub WordRead : {T E F : Type 0} → (List ℕ → Result T E → Type 0) → List ℕ → F → Result T F → Type 0
WordRead gives w f (Ok x) = gives w (Ok x)
WordRead {E = E} gives w f (Err g) = (g ≡ f) × (e : E) × gives w (Err e)
