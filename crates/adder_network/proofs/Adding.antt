-- The clauses of an adder, as the code has them: a table over the places of its variables.
use Rattle.std.proofs.Common.{◌≡◌, ℕ, Bool, true, ◌&&◌, ltb, leb, List, [], ◌∷◌, map, length, get_or, ℤ, pos, ◌-ℤ◌, Option, refl, ap, ◌∙◌, subst, ap₂, arith, w32, to_z, of_z}
use Rattle.std.specs.List.{flat_map, AllByRecursion as Each}
use Rattle.std.proofs.lemmas.List.{length-map}
use Rattle.std.proofs.lemmas.Bool.{and_from, and_parts, ltb-true}
use Rattle.std.proofs.ByRecursion.{All-get_or}
use Rattle.std.proofs.lemmas.Int.{ints}
use Rattle.formulas.specs.Formula.{Clause, Formula, Literal, is, isnt, variable}
use Rattle.formulas.specs.Clause.{every, right_length, usable, valid}
use Rattle.formulas.specs.Numbered.{numbered, signed}
use Rattle.formulas.proofs.Valid.{usable_is, usable_not}
use Rattle.places.specs.declared.fault.PlaceFault.{PlaceFault}
use Rattle.places.specs.declared.place.Place.{Ghosts}
use Rattle.places.specs.Written.{Writes}
use Rattle.adder_network.specs.Variables.{Usable}

pub joined_one : {X : Type 0} (xs : List X) → xs ≡ flat_map (λ x. x ∷ []) xs
joined_one [] = refl
joined_one (x ∷ xs) = ap (λ l. x ∷ l) (joined_one xs)

-- a literal as the machine has it
abbrev pub word : Literal ℕ → ℤ
word (is v) = to_z w32 v
word (isnt v) = to_z w32 (of_z w32 (pos 0 -ℤ to_z w32 v))

-- a table's literals name the places of the variables vs
abbrev pub at_place : List ℕ → Literal ℕ → Literal ℕ
at_place vs (is i) = is (get_or vs i 0)
at_place vs (isnt i) = isnt (get_or vs i 0)

abbrev pub worded : List ℕ → Formula ℕ → List (List ℤ)
worded vs f = map (map (λ l. word (at_place vs l))) f

-- the table speaks of n places, in clauses of a right length
abbrev pub below : ℕ → Clause ℕ → Bool
below n c = every (λ l. ltb (variable l) n) c

abbrev pub short : Clause ℕ → Bool
short c = leb 1 (length c) && leb (length c) 16

abbrev pub table_fits : ℕ → Formula ℕ → Bool
table_fits n f = every (λ c. short c && below n c) f

module _ (vs : List ℕ) (ok : Each Usable vs) where
  usable_at : (i : ℕ) → ltb i (length vs) ≡ true → Usable (get_or vs i 0)
  usable_at i h = All-get_or Usable vs i 0 (ltb-true i (length vs) h) ok

  word_is : (l : Literal ℕ) → ltb (variable l) (length vs) ≡ true → word (at_place vs l) ≡ signed (λ i. get_or vs i 0) l
  word_is (is i) h = let u = usable_at i h in omega (arith, ints)
  word_is (isnt i) h = let u = usable_at i h in omega (arith, ints)

  literal_usable : (l : Literal ℕ) → ltb (variable l) (length vs) ≡ true → usable (word (at_place vs l)) ≡ true
  literal_usable (is i) h = let u = usable_at i h in ap usable (word_is (is i) h) ∙ usable_is (get_or vs i 0) u.0 u.1
  literal_usable (isnt i) h = let u = usable_at i h in ap usable (word_is (isnt i) h) ∙ usable_not (get_or vs i 0) u.0 u.1

  clause_is : (c : Clause ℕ) → below (length vs) c ≡ true →
      (map (λ l. word (at_place vs l)) c ≡ map (signed (λ i. get_or vs i 0)) c) × (every usable (map (λ l. word (at_place vs l)) c) ≡ true)
  clause_is [] h = (refl, refl)
  clause_is (l ∷ c) h =
      let parts = and_parts (ltb (variable l) (length vs)) (below (length vs) c) h in
      let ih = clause_is c parts.1 in
      (ap₂ ◌∷◌ (word_is l parts.0) ih.0, and_from _ _ (literal_usable l parts.0) ih.1)

  -- a table's clauses are those of the formula, and any place takes them
  pub table_is : (f : Formula ℕ) → table_fits (length vs) f ≡ true → (worded vs f ≡ numbered (λ i. get_or vs i 0) f) × (every valid (worded vs f) ≡ true)
  table_is [] h = (refl, refl)
  table_is (c ∷ f) h =
      let parts = and_parts (short c && below (length vs) c) (table_fits (length vs) f) h in
      let first = and_parts (short c) (below (length vs) c) parts.0 in
      let size : right_length (map (λ l. word (at_place vs l)) c) ≡ true = ap (λ n. leb 1 n && leb n 16) (length-map c (λ l. word (at_place vs l))) ∙ first.0 in
      let here = clause_is c first.1 in
      let ih = table_is f parts.1 in
      (ap₂ ◌∷◌ here.0 ih.0, and_from _ _ (and_from _ _ size here.1) ih.1)

  -- what the code wrote of it
  pub table_written : {P : Type 0} (𝓟 : Ghosts P) (f : Formula ℕ) → table_fits (length vs) f ≡ true → (p q : P) (o : Option PlaceFault) →
      Writes 𝓟 (worded vs f) p q o → Writes 𝓟 (numbered (λ i. get_or vs i 0) f) p q o
  table_written 𝓟 f h p q o w = subst (λ cs. Writes 𝓟 cs p q o) (table_is f h).0 w
