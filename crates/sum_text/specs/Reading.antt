-- What the words of a sum say.
use Rattle.std.specs.Prelude.{◌≡◌, ℕ, ◌<◌, ◌⊎◌, List, [], ◌∷◌, ◌++◌, map, length, get_or, Some, Ok, Err, vec_items, Result, Vec, slice_index, slice_index_or}
use Rattle.std.specs.Borrow.{Bor}
use Rattle.std.specs.Str.Parse.{ParsesUnsigned}
use Rattle.std.specs.declared.alloc.Global.{Global}
use Rattle.sum_text.specs.declared.fault.SumTextFault.{SumTextFault}
use Rattle.sum_text.specs.declared.fault.SumTextFault.TheVariants as fault
use Rattle.sum_text.specs.declared.sum.Method.{Method}
use Rattle.sum_text.specs.declared.sum.OwnedSum.{OwnedSum}
use Rattle.sum_text.specs.Method.{method_of}

-- a word is a number of so many bits in base ten
abbrev pub Number : ℕ → List ℕ → ℕ → Type 0
Number bits w n = ParsesUnsigned {E = ℕ} bits 10 w (Ok n)

-- a word is a variable, a colon and a weight
abbrev pub Item : List ℕ → ℕ → ℕ → Type 0
Item w variable weight = (front : List ℕ) × (back : List ℕ) × (w ≡ front ++ 58 ∷ back) × Number 32 front variable × Number 8 back weight

-- each word is an item, in order
pub record Items (words : List (List ℕ)) (variables weights : List ℕ) : Type 0 where
  pub variable_count : length variables ≡ length words
  pub weight_count : length weights ≡ length words
  pub each : (k : ℕ) → k < length words → Item (slice_index_or words k []) (slice_index variables k) (slice_index weights k)

-- the words say the sum: the totaller, the target, the first fresh number and the items
abbrev pub Says : List (List ℕ) → OwnedSum → Type 0
Says [] s = ⊥
Says (m ∷ []) s = ⊥
Says (m ∷ t ∷ []) s = ⊥
Says (m ∷ t ∷ f ∷ ws) s =
    (method_of m ≡ Some s.method) × Number 32 t s.target × Number 32 f s.first × Items ws (vec_items s.variables) (vec_items s.weights)

-- the word names a totaller
abbrev pub IsMethod : Bor (List ℕ) → Type 0
IsMethod w = (m : Method) × (method_of w.now ≡ Some m)

-- the word is a number of 32 bits
abbrev pub IsNumber : Bor (List ℕ) → Type 0
IsNumber w = (n : ℕ) × Number 32 w.now n

-- the word is a variable, a colon and a weight
abbrev pub IsItem : Bor (List ℕ) → Type 0
IsItem w = (variable : ℕ) × (weight : ℕ) × Item w.now variable weight

-- the word w is the first of the words that is not as P says
pub record FirstWrong (P : Bor (List ℕ) → Type 0) (words : List (Bor (List ℕ))) (w : Bor (List ℕ)) : Type 0 where
  pub place : ℕ
  pub inside : place < length words
  pub there : get_or words place w ≡ w
  pub before : (k : ℕ) → k < place → P (slice_index_or words k w)
  pub wrong : P w → ⊥

-- an item is read, or the word is no item
abbrev pub ItemRead : Bor (List ℕ) → Result (ℕ × ℕ) SumTextFault → Type 0
ItemRead w (Ok p) = Item w.now p.0 p.1
ItemRead w (Err f) = (f ≡ fault.Item w) × (IsItem w → ⊥)

-- the items are read, or memory is wanting, or a word is the first that is no item
abbrev pub ItemsRead : List (Bor (List ℕ)) → Result (Vec ℕ Global × Vec ℕ Global) SumTextFault → Type 0
ItemsRead words (Ok p) = Items (map (λ x. x.now) words) (vec_items p.0) (vec_items p.1)
ItemsRead words (Err f) = (f ≡ fault.Memory) ⊎ ((w : Bor (List ℕ)) × (f ≡ fault.Item w) × FirstWrong IsItem words w)

-- the first word that is wrong, of the totaller m, the target t, the first fresh number f and the items ws; or memory is wanting
abbrev pub Wrong : Bor (List ℕ) → Bor (List ℕ) → Bor (List ℕ) → List (Bor (List ℕ)) → SumTextFault → Type 0
Wrong m t f ws fault.TooFewWords = ⊥
Wrong m t f ws (fault.Method w) = (w ≡ m) × (IsMethod m → ⊥)
Wrong m t f ws (fault.Number w) = IsMethod m × FirstWrong IsNumber (t ∷ f ∷ []) w
Wrong m t f ws (fault.Item w) = IsMethod m × IsNumber t × IsNumber f × FirstWrong IsItem ws w
Wrong m t f ws fault.Memory = Unit {0}

-- why the words say no sum
abbrev pub SaysNone : List (Bor (List ℕ)) → SumTextFault → Type 0
SaysNone [] e = e ≡ fault.TooFewWords
SaysNone (m ∷ []) e = e ≡ fault.TooFewWords
SaysNone (m ∷ t ∷ []) e = e ≡ fault.TooFewWords
SaysNone (m ∷ t ∷ f ∷ ws) e = Wrong m t f ws e

-- the sum that the words say is read, or they say none
abbrev pub SumRead : List (Bor (List ℕ)) → Result OwnedSum SumTextFault → Type 0
SumRead words (Ok s) = Says (map (λ x. x.now) words) s
SumRead words (Err e) = SaysNone words e
