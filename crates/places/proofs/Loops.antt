-- Loops that write the clauses of one thing after the other.
use Rattle.std.proofs.Common.{◌≡◌, ℕ, zero, suc, length, get_or, ◌+◌, ◌-◌, ◌<◌, ◌≤◌, List, [], ◌∷◌, ◌++◌, drop, ℤ, IsErrAnd, Some, None, Result, sym, ap, ◌∙◌, subst, append_assoc, append-nil, arith}
use Rattle.std.specs.List.{range_with_len, flat_map}
use Rattle.std.specs.Result.{result_err}
use Rattle.std.proofs.lemmas.List.{drop_all, drop_more}
use Rattle.std.proofs.lemmas.List.FromFn.{get_or-range_with_len, length-range_with_len}
use Rattle.places.specs.declared.fault.PlaceFault.{PlaceFault}
use Rattle.places.specs.declared.place.Place.{Ghosts}
use Rattle.places.specs.Written.{Writes}
use Rattle.places.proofs.Written.{Left, left_exit, left_more, writes_exit, writes_none}

-- the numbers from d up to n
abbrev pub up_to : ℕ → ℕ → List ℕ
up_to n d = range_with_len d (n + 1 - d)

pub all_up_to : (n : ℕ) → range_with_len 1 n ≡ up_to n 1
all_up_to n = let e : n ≡ n + 1 - 1 = omega arith in ap (range_with_len 1) e

pub next_up_to : (n d : ℕ) → d ≤ n → up_to n d ≡ d ∷ up_to n (d + 1)
next_up_to n d l = let e : n + 1 - d ≡ suc (n + 1 - (d + 1)) = omega arith in ap (range_with_len d) e

pub none_up_to : (n d : ℕ) → n < d → up_to n d ≡ []
none_up_to n d l = let e : n + 1 - d ≡ 0 = omega arith in ap (range_with_len d) e

-- the numbers from i on below n
abbrev pub below : ℕ → ℕ → List ℕ
below n i = drop i (range_with_len 0 n)

pub next_below : (n i : ℕ) → i < n → below n i ≡ i ∷ below n (i + 1)
next_below n i l =
    drop_more (range_with_len 0 n) i 0 (omega (arith, length-range_with_len 0 n)) ∙
    ap (λ x. x ∷ below n (i + 1)) (get_or-range_with_len 0 n i 0 l ∙ omega arith)

pub none_below : (n i : ℕ) → n ≤ i → below n i ≡ []
none_below n i l = drop_all i (range_with_len 0 n) (omega (arith, length-range_with_len 0 n))

-- what is put together from a list by turns, of which each knows its number and its element
module _ {X A : Type 0} (F : ℕ → List X → List A) (G : ℕ → X → List A) (none : (k : ℕ) → F k [] ≡ [])
    (more : (k : ℕ) (x : X) (rest : List X) → F k (x ∷ rest) ≡ G k x ++ F (k + 1) rest) (xs : List X) (z : X) where
  counted_from : (k n : ℕ) → k + n ≡ length xs → F k (drop k xs) ≡ flat_map (λ i. G i (get_or xs i z)) (range_with_len k n)
  counted_from k zero e = ap (F k) (drop_all k xs (omega arith)) ∙ none k
  counted_from k (suc n) e =
      ap (F k) (drop_more xs k z (omega arith)) ∙ more k (get_or xs k z) (drop (k + 1) xs) ∙
      ap (λ r. G k (get_or xs k z) ++ r) (counted_from (k + 1) n (omega arith))

  pub counted_is : F 0 xs ≡ flat_map (λ i. G i (get_or xs i z)) (below (length xs) 0)
  counted_is = counted_from 0 (length xs) (omega arith)

-- A loop that writes C x for each x in turn: cs were to come to p, and in q what is written for the xs is still to come, and then `after`.
pub record ToCome {P : Type 0} (𝓟 : Ghosts P) (cs : List (List ℤ)) (p : P) {X : Type 0} (C : X → List (List ℤ)) (after : List (List ℤ)) (xs : List X)
    (q : P) : Type 0 where
  pub left : Left 𝓟 cs p (flat_map C xs ++ after) q

module _ {P : Type 0} {𝓟 : Ghosts P} {cs : List (List ℤ)} {p : P} {X : Type 0} {C : X → List (List ℤ)} {after : List (List ℤ)} {xs : List X} {q : P} where
  -- none is written, and ds were still to come
  pub turns_from : {ds : List (List ℤ)} → ds ≡ flat_map C xs ++ after → Left 𝓟 cs p ds q → ToCome 𝓟 cs p C after xs q
  turns_from whole left = record { left = λ r o w. left r o (subst (λ es. Writes 𝓟 es q r o) (sym whole) w) }

  module _ (t : ToCome 𝓟 cs p C after xs q) where
    -- all are written
    pub turns_end : xs ≡ [] → Left 𝓟 cs p after q
    turns_end e r o w = t.left r o (subst (λ ys. Writes 𝓟 (flat_map C ys ++ after) q r o) (sym e) w)

    -- x is next
    module _ {x : X} {rest : List X} (next : xs ≡ x ∷ rest) where
      split : flat_map C xs ++ after ≡ C x ++ (flat_map C rest ++ after)
      split = ap (λ ys. flat_map C ys ++ after) next ∙ append_assoc (C x) (flat_map C rest) after

      pub turn_more : {r : P} → Writes 𝓟 (C x) q r None → ToCome 𝓟 cs p C after rest r
      turn_more {r} w = record { left = left_more 𝓟 cs p _ q t.left (C x) (flat_map C rest ++ after) split r w }

      pub turn_exit : {r : P} {fault : PlaceFault} (e : Result Unit PlaceFault) → IsErrAnd e (λ y. y ≡ fault) → Writes 𝓟 (C x) q r (Some fault) →
          Writes 𝓟 cs p r (result_err e)
      turn_exit {r} {fault} e by w = writes_exit 𝓟 cs p r fault e by (left_exit 𝓟 cs p _ q t.left (C x) (flat_map C rest ++ after) split r fault w)

module _ {P : Type 0} {𝓟 : Ghosts P} {cs : List (List ℤ)} {p : P} {X : Type 0} {C : X → List (List ℤ)} {xs : List X} where
  -- a loop that is all of a function
  pub turns_begin : cs ≡ flat_map C xs → ToCome 𝓟 cs p C [] xs p
  turns_begin whole = turns_from (whole ∙ sym (append-nil (flat_map C xs))) (λ r o w. w)

  pub turns_all : {q : P} → ToCome 𝓟 cs p C [] xs q → xs ≡ [] → Writes 𝓟 cs p q None
  turns_all {q} t e = turns_end t e q None (writes_none 𝓟 q)
