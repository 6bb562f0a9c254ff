use Rattle.std.proofs.Common.{◌≡◌, ℕ, ◌<◌, [], map, get_or, vec_items, vec_len}
use Rattle.sum_text.specs.Reading.{Item}
use Rattle.sum_text.proofs.read.read_items.Given as goal

-- the words so far are items
abbrev pub invariant-loop-word : goal.invariant-loop-word
invariant-loop-word l =
    (vec_len l.variables ≡ l.word-index) × (vec_len l.weights ≡ l.word-index) ×
    ((k : ℕ) → k < l.word-index → Item (get_or (map (λ x. x.now) l.words) k []) (get_or (vec_items l.variables) k 0) (get_or (vec_items l.weights) k 0))
