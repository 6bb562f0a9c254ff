-- Ways of spelling clauses in a buffer of elements, and what is kept of a buffer whose used part is spelled in one.
use Rattle.std.specs.Prelude.{◌≡◌, ℕ, ◌-◌, ◌≤◌, Bool, true, not, List, [], ◌∷◌, ◌++◌, length, take, drop, replicate, ℤ}
use Rattle.std.specs.List.{flat_map}
use Rattle.formulas.specs.Clause.{every, valid}

-- a way of spelling clauses: each is its body and then the mark, and free space is blank
pub record Spelling (X : Type 0) : Type 0 where
  pub blank : X
  pub mark : X
  pub body : List ℤ → List X
  -- the clauses that elements spell
  pub read : List X → List (List ℤ)
  -- how many elements a clause takes
  pub charge : List ℤ → ℕ

-- a clause, and the mark at its end
abbrev pub line : {X : Type 0} → Spelling X → List ℤ → List X
line s c = s.body c ++ s.mark ∷ []

-- clauses, one after the other
abbrev pub spelled : {X : Type 0} → Spelling X → List (List ℤ) → List X
spelled s cs = flat_map (line s) cs

-- what a way of spelling owes, where `ends` tells whether an element is the mark
pub record Lawful {X : Type 0} (ends : X → Bool) (s : Spelling X) : Type 0 where
  -- the mark stands at the end of a clause, and there alone
  pub marks : ends s.mark ≡ true
  pub plain : (c : List ℤ) → valid c ≡ true → every (λ x. not (ends x)) (s.body c) ≡ true
  pub charged : (c : List ℤ) → length (line s c) ≡ s.charge c
  -- what is written reads back
  pub back : (cs : List (List ℤ)) → every valid cs ≡ true → s.read (spelled s cs) ≡ cs
  -- no clause is read from nothing
  pub few : (xs : List X) → length (s.read xs) ≤ length xs

-- a store of clauses: the buffer xs, how much of it is used, and the count of the clauses
pub record Kept {X : Type 0} (s : Spelling X) (xs : List X) (used count : ℕ) : Type 0 where
  pub fits : used ≤ length xs
  pub sound : every valid (s.read (take used xs)) ≡ true
  pub written : spelled s (s.read (take used xs)) ≡ take used xs
  pub counted : count ≡ length (s.read (take used xs))
  pub blank : drop used xs ≡ replicate (length xs - used) s.blank
