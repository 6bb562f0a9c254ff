-- An adder network: the bits of the weights stand on lines, and adders take each line down to one literal or none.
use Rattle.std.specs.Prelude.{ℕ, zero, suc, ◌+◌, ◌*◌, ◌/◌, ◌%◌, ◌^◌, Bool, true, false, cond, ◌&&◌, List, [], ◌∷◌, ◌++◌, length, ◌==◌, nat_le}
use Rattle.formulas.specs.Formula.{is, isnt, Formula}
use Rattle.totals.specs.Items.{item, fresh}
use Rattle.totals.specs.Totaller.{Totaller}

-- an adder is known by what it adds; its sum and its carry are two fresh variables, one after the other
pub data Adder (A : Type 0) : Type 0 where
  full : A → A → A → Adder A
  half : A → A → Adder A

abbrev pub full_clauses : {A : Type 0} → A → A → A → A → A → Formula A
full_clauses a b c s t =
    (is a ∷ is b ∷ is c ∷ isnt s ∷ [])
    ∷ (is a ∷ isnt b ∷ isnt c ∷ isnt s ∷ [])
    ∷ (isnt a ∷ is b ∷ isnt c ∷ isnt s ∷ [])
    ∷ (isnt a ∷ isnt b ∷ is c ∷ isnt s ∷ [])
    ∷ (isnt a ∷ isnt b ∷ isnt c ∷ is s ∷ [])
    ∷ (isnt a ∷ is b ∷ is c ∷ is s ∷ [])
    ∷ (is a ∷ isnt b ∷ is c ∷ is s ∷ [])
    ∷ (is a ∷ is b ∷ isnt c ∷ is s ∷ [])
    ∷ (isnt a ∷ isnt b ∷ is t ∷ [])
    ∷ (isnt a ∷ isnt c ∷ is t ∷ [])
    ∷ (isnt b ∷ isnt c ∷ is t ∷ [])
    ∷ (is a ∷ is b ∷ isnt t ∷ [])
    ∷ (is a ∷ is c ∷ isnt t ∷ [])
    ∷ (is b ∷ is c ∷ isnt t ∷ [])
    ∷ []

abbrev pub half_clauses : {A : Type 0} → A → A → A → A → Formula A
half_clauses a b s t =
    (is a ∷ is b ∷ isnt s ∷ [])
    ∷ (isnt a ∷ isnt b ∷ isnt s ∷ [])
    ∷ (isnt a ∷ is b ∷ is s ∷ [])
    ∷ (is a ∷ isnt b ∷ is s ∷ [])
    ∷ (isnt a ∷ isnt b ∷ is t ∷ [])
    ∷ (is a ∷ isnt t ∷ [])
    ∷ (is b ∷ isnt t ∷ [])
    ∷ []

-- `new` gives the fresh variables
abbrev pub adder_clauses : {A : Type 0} → (ℕ → A) → ℕ → Adder A → Formula A
adder_clauses new n (full a b c) = full_clauses a b c (new n) (new (n + 1))
adder_clauses new n (half a b) = half_clauses a b (new n) (new (n + 1))

-- the clauses of adders one after the other, the first of which has the fresh variables n and n + 1
abbrev pub wired : {A : Type 0} → (ℕ → A) → ℕ → List (Adder A) → Formula A
wired new n [] = []
wired new n (g ∷ gs) = adder_clauses new n g ++ wired new (n + 2) gs

-- what a line comes to
pub record Reduced (A : Type 0) : Type 0 where
  pub adders : List (Adder A)
  pub carries : List A
  pub left : List A

-- a line, with n the next fresh variable: the first three go into a full adder, whose sum goes to the line's end;
-- the last two go into a half adder. The first number is at least the line's length
abbrev pub reduce : {A : Type 0} → (ℕ → A) → ℕ → List A → ℕ → Reduced A
reduce new zero ls n = record { adders = []; carries = []; left = ls }
reduce new (suc m) [] n = record { adders = []; carries = []; left = [] }
reduce new (suc m) (a ∷ []) n = record { adders = []; carries = []; left = a ∷ [] }
reduce new (suc m) (a ∷ b ∷ []) n = record { adders = half a b ∷ []; carries = new (n + 1) ∷ []; left = new n ∷ [] }
reduce new (suc m) (a ∷ b ∷ c ∷ ls) n =
    let r = reduce new m (ls ++ new n ∷ []) (n + 2) in
    record { adders = full a b c ∷ r.adders; carries = new (n + 1) ∷ r.carries; left = r.left }

abbrev pub has_bit : ℕ → ℕ → Bool
has_bit k n = n / 2 ^ k % 2 == 1

-- the items whose weight has bit k, where the first is item i, and `of` gives their variables
abbrev pub with_bit : {A : Type 0} → (ℕ → A) → ℕ → ℕ → List ℕ → List A
with_bit of k i [] = []
with_bit of k i (w ∷ ws) = cond (has_bit k w) (of i ∷ with_bit of k (i + 1) ws) (with_bit of k (i + 1) ws)

pub record Network (A : Type 0) : Type 0 where
  pub adders : List (Adder A)
  -- what is left of each line
  pub bits : List (List A)

-- m lines from line k on, where carries come in from the line below, and n is the next fresh variable
abbrev pub lines : {A : Type 0} → (ℕ → A) → (ℕ → A) → ℕ → ℕ → List ℕ → List A → ℕ → Network A
lines of new zero k ws carries n = record { adders = []; bits = [] }
lines of new (suc m) k ws carries n =
    let line = with_bit of k 0 ws ++ carries in
    let r = reduce new (length line) line n in
    let rest = lines of new m (k + 1) ws r.carries (n + 2 * length r.adders) in
    record { adders = r.adders ++ rest.adders; bits = r.left ∷ rest.bits }

-- what is left of a line must be the target's bit; y is the first item's variable
abbrev pub close : {A : Type 0} → A → Bool → List A → Formula A
close y true [] = (is y ∷ []) ∷ (isnt y ∷ []) ∷ []
close y true (a ∷ ls) = (is a ∷ []) ∷ []
close y false [] = []
close y false (a ∷ ls) = (isnt a ∷ []) ∷ []

abbrev pub closing : {A : Type 0} → A → ℕ → ℕ → List (List A) → Formula A
closing y k t [] = []
closing y k t (l ∷ ls) = close y (has_bit k t) l ++ closing y (k + 1) t ls

-- 96 items of at most 15 total less than 2 ^ 11
unfoldable pub network : {A : Type 0} → (ℕ → A) → (ℕ → A) → List ℕ → Network A
network of new ws = lines of new 11 0 ws [] 0

-- the whole formula, over variables of any type
abbrev pub adder_formula : {A : Type 0} → (ℕ → A) → (ℕ → A) → List ℕ → ℕ → Formula A
adder_formula of new ws t = wired new 0 (network of new ws).adders ++ closing (of 0) 0 t (network of new ws).bits

abbrev pub adders : Totaller
adders = record {
  most = 96;
  takes = λ n t. nat_le 1 n && nat_le n 96 && nat_le t 63;
  fresh_count = λ ws t. 2 * length (network item fresh ws).adders;
  formula = λ ws t. adder_formula item fresh ws t;
}
