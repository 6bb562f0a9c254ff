-- What a walk over a clause tells of its fault.
use Rattle.std.proofs.Common.{◌≡◌, ℕ, ◌+◌, Bool, true, false, not, cond, ◌&&◌, ltb, [], ◌∷◌, inl, inr, List, length, ℤ, Some, None, Option, sym, refl, ap, ◌∙◌, arith}
use Rattle.std.specs.Option.{option_map}
use Rattle.std.specs.List.{prefix_len, position}
use Rattle.std.proofs.lemmas.Bool.{cases_Bool}
use Rattle.std.proofs.lemmas.Bool.Decides.{nat_tests}
use Rattle.places.specs.declared.fault.PlaceFault.{PlaceFault}
use Rattle.places.specs.declared.fault.PlaceFault.TheVariants.{ClauseLength, Literal}
use Rattle.formulas.specs.Clause.{every, usable, right_length, valid}
use Rattle.places.specs.Put.{clause_fault}

-- the first element that does not pass
pub first_failing : {X : Type 0} (p : X → Bool) (xs : List X) → position (λ x. not (p x)) xs ≡ cond (every p xs) None (Some (prefix_len p xs))
first_failing p xs =
    ap (λ n. cond (ltb n (length xs)) (Some n) None) (twice p xs) ∙ sym (ap (λ b. cond b None (Some (prefix_len p xs))) (stops p xs) ∙ turned (ltb (prefix_len p xs) (length xs)) (prefix_len p xs))
  where
    twice : {X : Type 0} (p : X → Bool) (xs : List X) → prefix_len (λ x. not (not (p x))) xs ≡ prefix_len p xs
    twice p [] = refl
    twice p (x ∷ xs) = elim (cases_Bool (p x)) [ inl e ↦ rw e (ap (λ n. 1 + n) (twice p xs)) | inr e ↦ rw e refl ]

    stops : {X : Type 0} (p : X → Bool) (xs : List X) → every p xs ≡ not (ltb (prefix_len p xs) (length xs))
    stops p [] = refl
    stops p (x ∷ xs) = let h = stops p xs in elim (cases_Bool (p x)) [ inl e ↦ rw e (grind (arith, nat_tests)) | inr e ↦ rw e (grind (arith, nat_tests)) ]

    turned : (b : Bool) (n : ℕ) → cond (not b) None (Some n) ≡ cond b (Some n) None
    turned true n = refl
    turned false n = refl

-- what is wrong with a clause of the right length, by its first literal that is not usable
pub by_literal : (c : List ℤ) (first : Option ℕ) → first ≡ position (λ l. not (usable l)) c → right_length c ≡ true →
    option_map (λ i. Literal i) first ≡ clause_fault c
by_literal c first e r = ap (option_map (λ i. Literal i)) (e ∙ first_failing usable c) ∙ go (right_length c) (every usable c) (prefix_len usable c) r
  where
    go : (a b : Bool) (n : ℕ) → a ≡ true → option_map (λ i. Literal i) (cond b None (Some n)) ≡ cond a (cond b None (Some (Literal n))) (Some ClauseLength)
    go true true n r = refl
    go true false n r = refl
    go false b n r = grind arith

-- a clause with no fault is valid
pub valid_from : (c : List ℤ) → None ≡ clause_fault c → valid c ≡ true
valid_from c h = go (right_length c) (every usable c) _ _ h
  where
    go : (a b : Bool) (f g : PlaceFault) → None ≡ cond a (cond b None (Some f)) (Some g) → (a && b) ≡ true
    go true true f g e = refl
    go true false f g e = grind arith
    go false b f g e = grind arith
