-- Lists that are joined from parts.
use Rattle.std.proofs.Common.{◌≡◌, ℕ, ◌-◌, ◌≤◌, List, [], ◌∷◌, ◌++◌, length, take, drop, sym, refl, ap, ◌∙◌, append_assoc, arith, length-drop}
use Rattle.std.specs.List.{flat_map}
use Rattle.std.proofs.lemmas.List.{length-append, take_all, take-append-drop}

pub joined_append : {A X : Type 0} (f : A → List X) (xs ys : List A) → flat_map f (xs ++ ys) ≡ flat_map f xs ++ flat_map f ys
joined_append f [] ys = refl
joined_append f (x ∷ xs) ys = ap (λ r. f x ++ r) (joined_append f xs ys) ∙ sym (append_assoc (f x) (flat_map f xs) (flat_map f ys))

pub joined_split : {A X : Type 0} (f : A → List X) (xs : List A) (m : ℕ) → flat_map f xs ≡ flat_map f (take m xs) ++ flat_map f (drop m xs)
joined_split f xs m = ap (flat_map f) (sym (take-append-drop m xs)) ∙ joined_append f (take m xs) (drop m xs)

pub length_joined_take : {A X : Type 0} (f : A → List X) (xs : List A) (m : ℕ) → length (flat_map f (take m xs)) ≤ length (flat_map f xs)
length_joined_take f xs m = omega (arith, ap length (joined_split f xs m), length-append (flat_map f (take m xs)) (flat_map f (drop m xs)))

-- the rest of a list, as a range without an end has it
pub rest_is : {X : Type 0} (xs : List X) (k : ℕ) → take (length xs - k) (drop k xs) ≡ drop k xs
rest_is xs k = take_all (length xs - k) (drop k xs) (omega (arith, length-drop k xs))
