-- The items of a sum as the code holds them.
use Rattle.std.specs.Prelude.{◌≡◌, ℕ, List, ◌++◌}
use Rattle.sum_kinds.specs.declared.items.Items.{Items}

-- these variables, and their weights, come behind the others
abbrev pub Longer : Items → List ℕ → List ℕ → Items → Type 0
Longer old vs ws new = (new.variables.items ≡ old.variables.items ++ vs) × (new.weights.items ≡ old.weights.items ++ ws)
