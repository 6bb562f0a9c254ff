-- Laws of `every`.
use Rattle.std.proofs.Common.{◌≡◌, ℕ, zero, suc, ◌<◌, Bool, true, List, [], ◌∷◌, ◌++◌, length, get_or, take, drop, refl, le_of_suc-le-suc, not-suc-le-zero}
use Rattle.std.proofs.lemmas.Bool.{and_parts, and_from}
use Rattle.formulas.specs.Clause.{every}

pub every_append : {X : Type 0} (p : X → Bool) (xs ys : List X) → every p xs ≡ true → every p ys ≡ true → every p (xs ++ ys) ≡ true
every_append p [] ys h k = k
every_append p (x ∷ xs) ys h k =
    let both = and_parts (p x) (every p xs) h in and_from (p x) (every p (xs ++ ys)) both.0 (every_append p xs ys both.1 k)

pub every_push : {X : Type 0} (p : X → Bool) (xs : List X) (y : X) → every p xs ≡ true → p y ≡ true → every p (xs ++ y ∷ []) ≡ true
every_push p xs y h k = every_append p xs (y ∷ []) h (and_from (p y) true k refl)

pub every_take : {X : Type 0} (p : X → Bool) (n : ℕ) (xs : List X) → every p xs ≡ true → every p (take n xs) ≡ true
every_take p zero xs h = refl
every_take p (suc n) [] h = refl
every_take p (suc n) (x ∷ xs) h =
    let both = and_parts (p x) (every p xs) h in and_from (p x) (every p (take n xs)) both.0 (every_take p n xs both.1)

pub every_drop : {X : Type 0} (p : X → Bool) (n : ℕ) (xs : List X) → every p xs ≡ true → every p (drop n xs) ≡ true
every_drop p zero xs h = h
every_drop p (suc n) [] h = refl
every_drop p (suc n) (x ∷ xs) h = every_drop p n xs (and_parts (p x) (every p xs) h).1

-- what each element that passes one test passes too
pub every_weaker : {X : Type 0} (p q : X → Bool) → ((x : X) → p x ≡ true → q x ≡ true) → (xs : List X) → every p xs ≡ true → every q xs ≡ true
every_weaker p q f [] h = refl
every_weaker p q f (x ∷ xs) h =
    let both = and_parts (p x) (every p xs) h in and_from (q x) (every q xs) (f x both.0) (every_weaker p q f xs both.1)

pub every_get_or : {X : Type 0} (p : X → Bool) (xs : List X) (i : ℕ) (d : X) → i < length xs → every p xs ≡ true → p (get_or xs i d) ≡ true
every_get_or p [] i d l h = absurd (not-suc-le-zero l)
every_get_or p (x ∷ xs) zero d l h = (and_parts (p x) (every p xs) h).0
every_get_or p (x ∷ xs) (suc i) d l h = every_get_or p xs i d (le_of_suc-le-suc l) (and_parts (p x) (every p xs) h).1
