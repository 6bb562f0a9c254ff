-- What a place holds after clauses that any place takes were put one after the other, up to the first that did not fit.
use Rattle.std.specs.Prelude.{◌≡◌, ℕ, suc, ◌+◌, ◌-◌, cond, List, [], ◌∷◌, ◌++◌, length, take, ℤ, Some, None, sum_by, Option, nat_le}
use Rattle.places.specs.declared.place.Place.{Ghosts}
use Rattle.places.specs.declared.fault.PlaceFault.{PlaceFault}
use Rattle.places.specs.declared.fault.PlaceFault.TheVariants.{NoSpace}

-- how many of the clauses, from the first on, fit the space together
abbrev pub fitting : (List ℤ → ℕ) → ℕ → List (List ℤ) → ℕ
fitting charge free [] = 0
fitting charge free (c ∷ cs) = cond (nat_le (charge c) free) (suc (fitting charge (free - charge c) cs)) 0

-- the clauses cs came to the end of a place that held `held` and had `free` left: now it holds held' and has free' left
pub record Wrote (charge : List ℤ → ℕ) (cs : List (List ℤ)) (held : List (List ℤ)) (free : ℕ) (held' : List (List ℤ)) (free' : ℕ) (fault : Option PlaceFault) : Type 0 where
  -- there is a fault just where the charges together exceed the space: then the clauses held at that time are told
  pub ended : fault ≡ cond (nat_le (sum_by charge cs) free) None (Some (NoSpace (length held + fitting charge free cs)))
  -- those that fit are in the place, at its end and in order
  pub holds : held' ≡ held ++ take (fitting charge free cs) cs
  -- their charges are gone from its space
  pub room : free' + sum_by charge (take (fitting charge free cs) cs) ≡ free

-- the same of a place of any type, by what its type says that it means
abbrev pub Writes : {P : Type 0} → Ghosts P → List (List ℤ) → P → P → Option PlaceFault → Type 0
Writes place cs before after fault =
    Wrote place.charge cs (place.held before) (place.free before) (place.held after) (place.free after) fault
