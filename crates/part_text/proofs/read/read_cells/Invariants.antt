use Rattle.std.proofs.Common.{◌≡◌, ℕ, ◌<◌, [], map, get_or, vec_items, vec_len}
use Rattle.sum_text.specs.Reading.{Number}
use Rattle.part_text.proofs.read.read_cells.Given as goal

-- the words so far are cells
abbrev pub invariant-loop-word : goal.invariant-loop-word
invariant-loop-word l =
    (vec_len l.body ≡ l.word-index) ×
    ((k : ℕ) → k < l.word-index → Number 8 (get_or (map (λ x. x.now) l.words) k []) (get_or (vec_items l.body) k 0))
