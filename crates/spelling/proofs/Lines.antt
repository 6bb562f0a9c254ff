-- A line of text, literal by literal.
use Rattle.std.proofs.Common.{◌≡◌, ℕ, ◌+◌, ◌<◌, ◌≤◌, List, [], ◌∷◌, ◌++◌, length, get_or, take, drop, ℤ, pos, sym, refl, ap, ◌∙◌, append_assoc, append-nil, arith}
use Rattle.std.specs.Fmt.{signed_decimal}
use Rattle.std.proofs.lemmas.List.{length-append, length_push, take_more, drop_at}
use Rattle.spelling.specs.Text.{spaced, text_body, text_line}
use Rattle.formulas.proofs.Lists.{joined_append}

abbrev spaced_one : ℤ → List ℕ
spaced_one l = signed_decimal l ++ 32 ∷ []

pub spaced_more : (c : List ℤ) (i : ℕ) → i < length c → spaced (take (i + 1) c) ≡ (spaced (take i c) ++ signed_decimal (get_or c i (pos 0))) ++ 32 ∷ []
spaced_more c i l =
    let x = get_or c i (pos 0) in
    ap spaced (take_more c i (pos 0) l) ∙ joined_append spaced_one (take i c) (x ∷ []) ∙ ap (λ r. spaced (take i c) ++ r) (append-nil (spaced_one x)) ∙
    sym (append_assoc (spaced (take i c)) (signed_decimal x) (32 ∷ []))

-- A line from its end: what stands from a literal on is the literal, its space, and what stands behind these.
module _ (c r : List ℤ) (x : ℤ) (before : c ≡ (r ++ x ∷ []) ++ drop (length (r ++ x ∷ [])) c) where
  front : spaced (r ++ x ∷ []) ≡ (spaced r ++ signed_decimal x) ++ 32 ∷ []
  front =
      joined_append spaced_one r (x ∷ []) ∙ ap (λ q. spaced r ++ q) (append-nil (spaced_one x)) ∙ sym (append_assoc (spaced r) (signed_decimal x) (32 ∷ []))

  pub spaced_last : length (spaced (r ++ x ∷ [])) ≡ length (spaced r) + (length (signed_decimal x) + 1)
  spaced_last = ap length front ∙ omega (arith, length_push (spaced r ++ signed_decimal x) 32, length-append (spaced r) (signed_decimal x))

  abbrev tail : List ℕ
  tail = spaced (drop (length (r ++ x ∷ [])) c) ++ 48 ∷ 10 ∷ []

  whole : text_line c ≡ spaced (r ++ x ∷ []) ++ tail
  whole =
      let rest = drop (length (r ++ x ∷ [])) c in
      ap text_line before ∙ append_assoc (spaced ((r ++ x ∷ []) ++ rest)) (48 ∷ []) (10 ∷ []) ∙
      ap (λ q. q ++ 48 ∷ 10 ∷ []) (joined_append spaced_one (r ++ x ∷ []) rest) ∙ append_assoc (spaced (r ++ x ∷ [])) (spaced rest) (48 ∷ 10 ∷ [])

  pub spaced_fits : length (spaced (r ++ x ∷ [])) ≤ length (text_line c)
  spaced_fits = omega (arith, ap length whole, length-append (spaced (r ++ x ∷ [])) tail)

  pub from_literal : drop (length (spaced r)) (text_line c) ≡ signed_decimal x ++ 32 ∷ drop (length (spaced (r ++ x ∷ []))) (text_line c)
  from_literal =
      let d = signed_decimal x in
      let parts : text_line c ≡ spaced r ++ (d ++ 32 ∷ tail) =
      whole ∙ ap (λ q. q ++ tail) front ∙ append_assoc (spaced r ++ d) (32 ∷ []) tail ∙ append_assoc (spaced r) d (32 ∷ tail) in
      ap (drop (length (spaced r))) parts ∙ drop_at (spaced r) (d ++ 32 ∷ tail) (length (spaced r)) refl ∙
      ap (λ q. d ++ 32 ∷ q) (sym (ap (drop (length (spaced (r ++ x ∷ [])))) whole ∙ drop_at (spaced (r ++ x ∷ [])) tail (length (spaced (r ++ x ∷ []))) refl))

  pub left_before : c ≡ r ++ drop (length r) c
  left_before =
      let rest = drop (length (r ++ x ∷ [])) c in
      let parts : c ≡ r ++ (x ∷ rest) = before ∙ append_assoc r (x ∷ []) rest in
      parts ∙ ap (λ q. r ++ q) (sym (ap (drop (length r)) parts ∙ drop_at r (x ∷ rest) (length r) refl))

pub length_line : (c : List ℤ) → length (text_line c) ≡ length (spaced c) + 2
length_line c = omega (arith, length_push (text_body c) 10, length_push (spaced c) 48)

-- what stands behind all literals
pub line_end : (c : List ℤ) → drop (length (spaced c)) (text_line c) ≡ 48 ∷ 10 ∷ []
line_end c =
    ap (drop (length (spaced c))) (append_assoc (spaced c) (48 ∷ []) (10 ∷ [])) ∙ drop_at (spaced c) (48 ∷ 10 ∷ []) (length (spaced c)) refl
