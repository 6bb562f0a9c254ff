-- What the words of a part say.
use Rattle.std.specs.Prelude.{◌≡◌, ℕ, ◌<◌, List, [], ◌∷◌, length, Some, vec_items, slice_index, slice_index_or}
use Rattle.sum_text.specs.Method.{method_of}
use Rattle.sum_text.specs.Reading.{Number}
use Rattle.part_text.specs.declared.part.KindName.{KindName}
use Rattle.part_text.specs.declared.part.KindName.TheVariants.{Givens, Cage, Thermometer, Arrow}
use Rattle.part_text.specs.declared.part.Part.{Part}
use Rattle.part_text.specs.Names.{kind_of, side_of}

-- each word is a cell, in order
pub record Cells (words : List (List ℕ)) (body : List ℕ) : Type 0 where
  pub count : length body ≡ length words
  pub each : (k : ℕ) → k < length words → Number 8 (slice_index_or words k []) (slice_index body k)

-- the characters are those of the one word, if there is one
abbrev pub Characters : List (List ℕ) → List ℕ → Type 0
Characters [] body = body ≡ []
Characters (w ∷ []) body = body ≡ w
Characters (w ∷ v ∷ ws) body = ⊥

-- the body of a part of a kind
abbrev pub Body : KindName → List (List ℕ) → List ℕ → Type 0
Body Givens ws body = Characters ws body
Body Cage ws body = Cells ws body
Body Thermometer ws body = Cells ws body
Body Arrow ws body = Cells ws body

-- the words say the part: the totaller, the side, the kind, the total and the body
abbrev pub Says : List (List ℕ) → Part → Type 0
Says [] p = ⊥
Says (m ∷ []) p = ⊥
Says (m ∷ s ∷ []) p = ⊥
Says (m ∷ s ∷ k ∷ []) p = ⊥
Says (m ∷ s ∷ k ∷ t ∷ ws) p =
    (method_of m ≡ Some p.method) × (side_of s ≡ Some p.side) × (kind_of k ≡ Some p.kind) × Number 32 t p.total × Body p.kind ws (vec_items p.body)
