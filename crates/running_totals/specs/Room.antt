-- What the table of a sum asks of it, and the numbers of its variables.
use Rattle.std.specs.Prelude.{◌≡◌, ℕ, ◌+◌, ◌*◌, ◌<◌, ◌≤◌, length, slice_index}
use Rattle.totals.specs.Items.{Item}
use Rattle.totallers.specs.Writing.{number}
use Rattle.totallers.specs.declared.sum.Sum.{Sum}

-- the table has room for its numbers, and its items can be literals
pub record Room (s : Sum) : Type 0 where
  pub same : length s.variables.now ≡ length s.weights.now
  pub few : length s.variables.now ≤ 96
  pub target : s.target ≤ 63
  pub first : 1 ≤ s.first
  pub last : s.first + (length s.variables.now + 1) * (s.target + 1) ≤ 65536
  pub items : (i : ℕ) → i < length s.variables.now → (1 ≤ slice_index s.variables.now i) × (slice_index s.variables.now i ≤ 65535)

-- item i has the i-th variable, and the table's count from the first fresh number
abbrev pub numbers : Sum → Item → ℕ
numbers s = number s.variables.now s.first
