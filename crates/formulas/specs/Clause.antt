-- Clauses over numbered variables: a literal is a variable's number, negative for "not".
use Rattle.std.specs.Prelude.{Bool, true, ◌&&◌, List, [], ◌∷◌, length, ℤ, nat_le, unsigned_abs}

abbrev pub every : {X : Type 0} → (X → Bool) → List X → Bool
every p [] = true
every p (x ∷ xs) = p x && every p xs

-- a literal names a variable from 1 to 65,535
abbrev pub usable : ℤ → Bool
usable l = nat_le 1 (unsigned_abs l) && nat_le (unsigned_abs l) 65535

-- from 1 to 16 literals
abbrev pub right_length : List ℤ → Bool
right_length c = nat_le 1 (length c) && nat_le (length c) 16

-- a clause that any place takes if it has the space
abbrev pub valid : List ℤ → Bool
valid c = right_length c && every usable c
