-- Clauses in text: what is written reads back.
use Rattle.std.proofs.Common.{◌≡◌, ℕ, suc, ◌+◌, ◌%◌, ◌^◌, ◌<◌, ◌≤◌, Bool, true, false, not, ltb, List, [], ◌∷◌, ◌++◌, map, length, get_or, drop, ℤ, pos, negsuc, neg_ℤ, nat_abs, decimal, sym, refl, ap, ◌∙◌, append-nil, not-suc-le-zero, arith}
use lib.ListN.{length-map}
use Rattle.std.specs.List.{flat_map}
use Rattle.std.specs.Str.Parse.{AllDigits, digits_value, signed_digits_value, without_leading_sign, starts_with_minus, without_leading_plus}
use Rattle.std.specs.Fmt.{signed_decimal}
use Rattle.std.proofs.lemmas.Fmt.{decimal_by_steps, decimal_is_IsNumeral}
use Rattle.std.proofs.lemmas.Str.Parse.{without_leading_plus_none}
use Rattle.std.proofs.lemmas.Bool.{and_parts, and_from, lt-ltb, ne_eqb, cond-false}
use Rattle.std.proofs.lemmas.Bool.Decides.{nat_tests}
use Rattle.formulas.specs.Clause.{every, usable, valid, right_length}
use Rattle.spelling.specs.Text.{spaced, text_body, spelled_text, is_space, is_line_feed, literals_in, clauses_in_text, text}
use Rattle.spelling.specs.Spelling.{pieces}
use Rattle.formulas.proofs.Every.{every_append, every_push, every_weaker}
use Rattle.spelling.proofs.Pieces.{pieces_closed, length_pieces}
use Rattle.spelling.specs.Store.{Lawful}

-- a byte that is no space and no line feed
abbrev inky : ℕ → Bool
inky b = ltb 32 b

pub usable_small : (l : ℤ) → usable l ≡ true → nat_abs l ≤ 65535
usable_small l h = grind (arith, nat_tests)

decimal_inky : (n : ℕ) → n < 2 ^ 64 → every inky (decimal n) ≡ true
decimal_inky =
    decimal_by_steps (λ n ds. every inky ds ≡ true)
    (λ n h. and_from (inky (48 + n)) true (lt-ltb 32 (48 + n) (omega arith)) refl)
    (λ n ds h ih. every_push inky ds (48 + n % 10) ih (lt-ltb 32 (48 + n % 10) (omega arith)))

signed_inky : (l : ℤ) → usable l ≡ true → every inky (signed_decimal l) ≡ true
signed_inky (pos n) h = decimal_inky n (omega (arith, usable_small (pos n) h))
signed_inky (negsuc n) h = decimal_inky (suc n) (omega (arith, usable_small (negsuc n) h))

-- a numeral begins with a digit
first_digit : (ds : List ℕ) → 0 < length ds → AllDigits 10 ds → 48 ≤ get_or ds 0 0
first_digit [] l h = absurd (not-suc-le-zero l)
first_digit (d ∷ ds) l h = let k = h.0 in grind (arith, nat_tests)

pub literal_back : (l : ℤ) → usable l ≡ true → signed_digits_value 10 (signed_decimal l) ≡ l
literal_back (pos n) h =
    let r = decimal_is_IsNumeral n (omega (arith, usable_small (pos n) h)) in
    let f = first_digit (decimal n) r.0.0 r.0.1 in
    let m : starts_with_minus (decimal n) ≡ false = ne_eqb (get_or (decimal n) 0 0) 45 (λ e. omega arith) in
    let a : without_leading_sign (decimal n) ≡ decimal n =
    cond-false (starts_with_minus (decimal n)) (drop 1 (decimal n)) (without_leading_plus (decimal n)) m ∙ without_leading_plus_none (decimal n) (λ e. omega arith) in
    cond-false (starts_with_minus (decimal n)) (neg_ℤ (pos (digits_value 10 (without_leading_sign (decimal n))))) (pos (digits_value 10 (without_leading_sign (decimal n)))) m ∙
    ap (λ ds. pos (digits_value 10 ds)) a ∙ ap pos r.1
literal_back (negsuc n) h = let r = decimal_is_IsNumeral (suc n) (omega (arith, usable_small (negsuc n) h)) in ap (λ m. neg_ℤ (pos m)) r.1

literals_back : (c : List ℤ) → every usable c ≡ true → map (signed_digits_value 10) (map signed_decimal c) ≡ c
literals_back [] h = refl
literals_back (l ∷ c) h =
    let both = and_parts (usable l) (every usable c) h in
    ap (λ r. r ∷ map (signed_digits_value 10) (map signed_decimal c)) (literal_back l both.0) ∙ ap (λ r. l ∷ r) (literals_back c both.1)

usables : (c : List ℤ) → valid c ≡ true → every usable c ≡ true
usables c h = (and_parts (right_length c) (every usable c) h).1

not_space : (b : ℕ) → inky b ≡ true → not (is_space b) ≡ true
not_space b h = grind (arith, nat_tests)

not_feed : (b : ℕ) → inky b ≡ true → not (is_line_feed b) ≡ true
not_feed b h = grind (arith, nat_tests)

line_back : (c : List ℤ) → valid c ≡ true → literals_in (text_body c) ≡ c
line_back c h =
    let plain : every (λ l. every (λ b. not (is_space b)) (signed_decimal l)) c ≡ true =
    every_weaker usable (λ l. every (λ b. not (is_space b)) (signed_decimal l)) (λ l u. every_weaker inky (λ b. not (is_space b)) not_space (signed_decimal l) (signed_inky l u)) c (usables c h) in
    ap (map (signed_digits_value 10)) (pieces_closed is_space 32 refl signed_decimal c (48 ∷ []) plain ∙ append-nil (map signed_decimal c)) ∙ literals_back c (usables c h)

every_joined : {A X : Type 0} (p : X → Bool) (f : A → List X) (bs : List A) → every (λ b. every p (f b)) bs ≡ true → every p (flat_map f bs) ≡ true
every_joined p f [] h = refl
every_joined p f (b ∷ bs) h =
    let both = and_parts (every p (f b)) (every (λ d. every p (f d)) bs) h in every_append p (f b) (flat_map f bs) both.0 (every_joined p f bs both.1)

pub no_feeds : (c : List ℤ) → valid c ≡ true → every (λ b. not (is_line_feed b)) (text_body c) ≡ true
no_feeds c h =
    every_push (λ b. not (is_line_feed b)) (spaced c) 48
    (every_joined (λ b. not (is_line_feed b)) (λ l. signed_decimal l ++ 32 ∷ []) c
    (every_weaker usable (λ l. every (λ b. not (is_line_feed b)) (signed_decimal l ++ 32 ∷ []))
    (λ l u. every_push (λ b. not (is_line_feed b)) (signed_decimal l) 32 (every_weaker inky (λ b. not (is_line_feed b)) not_feed (signed_decimal l) (signed_inky l u)) refl)
    c (usables c h)))
    refl

lines_back : (cs : List (List ℤ)) → every valid cs ≡ true → map literals_in (map text_body cs) ≡ cs
lines_back [] h = refl
lines_back (c ∷ cs) h =
    let both = and_parts (valid c) (every valid cs) h in
    ap (λ r. r ∷ map literals_in (map text_body cs)) (line_back c both.0) ∙ ap (λ r. c ∷ r) (lines_back cs both.1)

-- what is written reads back
pub text_back : (cs : List (List ℤ)) → every valid cs ≡ true → clauses_in_text (spelled_text cs) ≡ cs
text_back cs h =
    ap clauses_in_text (sym (append-nil (spelled_text cs))) ∙
    ap (map literals_in) (pieces_closed is_line_feed 10 refl text_body cs [] (every_weaker valid (λ c. every (λ b. not (is_line_feed b)) (text_body c)) no_feeds cs h) ∙ append-nil (map text_body cs)) ∙
    lines_back cs h

pub few_lines : (bs : List ℕ) → length (clauses_in_text bs) ≤ length bs
few_lines bs = omega (arith, length-map (pieces is_line_feed bs) literals_in, length_pieces is_line_feed bs)

pub text_lawful : Lawful is_line_feed text
text_lawful = record { marks = refl; plain = no_feeds; charged = λ c. refl; back = text_back; few = few_lines }
