-- What a store means.
use Rattle.std.specs.Prelude.{ℕ, ◌-◌, List, length, take, ℤ}
use Rattle.places.specs.declared.scan.Element.{Ghosts as Marks}
use Rattle.store.specs.declared.way.Spelling.{Ghosts}
use Rattle.store.specs.declared.store.Store.{Store}

-- the clauses that it holds
abbrev pub held : {S E : Type 0} {ghosts : Ghosts S E} {marks : Marks E} → Store S E ghosts marks → List (List ℤ)
held {S} {E} {ghosts} p = ghosts.spelling.read (take p.used p.elements.now)

-- the elements that are left
abbrev pub free : {S E : Type 0} {ghosts : Ghosts S E} {marks : Marks E} → Store S E ghosts marks → ℕ
free p = length p.elements.now - p.used
