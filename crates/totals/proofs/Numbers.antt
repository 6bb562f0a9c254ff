-- An adder network over numbers, line by line and adder by adder.
use Rattle.std.proofs.Common.{◌≡◌, ℕ, zero, suc, ◌+◌, ◌-◌, ◌*◌, ◌/◌, ◌<◌, ◌≤◌, List, [], ◌∷◌, ◌++◌, length, get_or, drop, sym, refl, ap, ◌∙◌, ap₂, inl, inr, append_assoc, arith}
use Rattle.std.proofs.lemmas.List.{length-append, length_push, map-append}
use Rattle.std.proofs.lemmas.Bool.{cases_Bool}
use Rattle.formulas.specs.Formula.{Formula}
use Rattle.formulas.specs.Numbered.{plain}
use Rattle.totals.specs.Adders.{Adder, full, half, Network, Reduced, adder_clauses, adder_formula, closing, full_clauses, half_clauses, has_bit, lines, network, reduce, wired, with_bit}
use Rattle.totals.proofs.Extras as any
use Rattle.totals.proofs.Extras.{turn}
use Rattle.totals.specs.Numbers.{adder_count, adders_in, count_from, first_adder, line_of, lines_from, reduced, seconds, wiring}

-- a line before the lines above it
abbrev pub front : Reduced ℕ → Network ℕ → Network ℕ
front r w = record { adders = r.adders ++ w.adders; bits = r.left ∷ w.bits }

-- the first adder takes the line's first variables, and its sum goes to the end
pub reduced_turn : (ls : List ℕ) (n : ℕ) → 2 ≤ length ls → reduced ls n ≡ turn (λ j. j) (first_adder ls) n (reduced (drop 3 ls ++ n ∷ []) (n + 2))
reduced_turn [] n l = absurd (omega arith)
reduced_turn (a ∷ []) n l = absurd (omega arith)
reduced_turn (a ∷ b ∷ []) n l = refl
reduced_turn (a ∷ b ∷ c ∷ ls) n l = any.reduced_turn (λ j. j) a b c ls n

pub reduced_few : (ls : List ℕ) (n : ℕ) → length ls ≤ 1 → reduced ls n ≡ record { adders = []; carries = []; left = ls }
reduced_few [] n l = refl
reduced_few (a ∷ []) n l = refl
reduced_few (a ∷ b ∷ ls) n l = absurd (omega arith)

half_of : (m : ℕ) (ls : List ℕ) (n : ℕ) → length ls ≤ m → length (reduce (λ j. j) m ls n).adders ≡ length ls / 2
half_of zero [] n l = refl
half_of zero (a ∷ ls) n l = absurd (omega arith)
half_of (suc m) [] n l = refl
half_of (suc m) (a ∷ []) n l = refl
half_of (suc m) (a ∷ b ∷ []) n l = refl
half_of (suc m) (a ∷ b ∷ c ∷ ls) n l =
    let e = length_push ls n in
    let ih = half_of m (ls ++ n ∷ []) (n + 2) (omega arith) in
    omega arith

-- there is an adder for every two variables
pub adders_half : (ls : List ℕ) (n : ℕ) → length (reduced ls n).adders ≡ length ls / 2
adders_half ls n = half_of (length ls) ls n (omega arith)

carries_of : (m : ℕ) (ls : List ℕ) (n : ℕ) → (reduce (λ j. j) m ls n).carries ≡ seconds (n + 1) (length (reduce (λ j. j) m ls n).adders)
carries_of zero ls n = refl
carries_of (suc m) [] n = refl
carries_of (suc m) (a ∷ []) n = refl
carries_of (suc m) (a ∷ b ∷ []) n = refl
carries_of (suc m) (a ∷ b ∷ c ∷ ls) n =
    let r = reduce (λ j. j) m (ls ++ n ∷ []) (n + 2) in
    let e : n + 2 + 1 ≡ n + 1 + 2 = omega arith in
    ap (λ l. (n + 1) ∷ l) (carries_of m (ls ++ n ∷ []) (n + 2) ∙ ap (λ k. seconds k (length r.adders)) e)

pub carries_are : (ls : List ℕ) (n : ℕ) → (reduced ls n).carries ≡ seconds (n + 1) (length ls / 2)
carries_are ls n = carries_of (length ls) ls n ∙ ap (seconds (n + 1)) (adders_half ls n)

pub seconds_more : (n c : ℕ) → seconds n (c + 1) ≡ seconds n c ++ (n + 2 * c) ∷ []
seconds_more n zero = ap (λ k. k ∷ []) (omega arith)
seconds_more n (suc c) =
    let e : n + 2 + 2 * c ≡ n + 2 * suc c = omega arith in
    let d : suc c + 1 ≡ suc (c + 1) = omega arith in
    ap (seconds n) d ∙ ap (λ l. n ∷ l) (seconds_more (n + 2) c ∙ ap (λ k. seconds (n + 2) c ++ k ∷ []) e)

pub seconds_length : (n c : ℕ) → length (seconds n c) ≡ c
seconds_length n zero = refl
seconds_length n (suc c) = ap suc (seconds_length (n + 2) c)

-- adders one after the other
wired_append : (gs hs : List (Adder ℕ)) (n : ℕ) → wired (λ j. j) n (gs ++ hs) ≡ wired (λ j. j) n gs ++ wired (λ j. j) (n + 2 * length gs) hs
wired_append [] hs n = ap (λ k. wired (λ j. j) k hs) (omega arith)
wired_append (g ∷ gs) hs n =
    let e : n + 2 + 2 * length gs ≡ n + 2 * suc (length gs) = omega arith in
    ap (λ l. adder_clauses (λ j. j) n g ++ l) (wired_append gs hs (n + 2) ∙ ap (λ k. wired (λ j. j) (n + 2) gs ++ wired (λ j. j) k hs) e) ∙
    sym (append_assoc (adder_clauses (λ j. j) n g) (wired (λ j. j) (n + 2) gs) (wired (λ j. j) (n + 2 * suc (length gs)) hs))

plain_append : (f g : Formula ℕ) → plain (f ++ g) ≡ plain f ++ plain g
plain_append f g = map-append _ f g

pub wiring_append : (n : ℕ) (gs hs : List (Adder ℕ)) → wiring n (gs ++ hs) ≡ wiring n gs ++ wiring (n + 2 * length gs) hs
wiring_append n gs hs = ap plain (wired_append gs hs n) ∙ plain_append (wired (λ j. j) n gs) (wired (λ j. j) (n + 2 * length gs) hs)

-- fresh numbers from f on
module _ (f : ℕ) where
  adder_from : (n : ℕ) (g : Adder ℕ) → adder_clauses (λ j. f + j) n g ≡ adder_clauses (λ j. j) (f + n) g
  adder_from n (full a b c) = ap (full_clauses a b c (f + n)) (omega arith)
  adder_from n (half a b) = ap (half_clauses a b (f + n)) (omega arith)

  wired_from : (n : ℕ) (gs : List (Adder ℕ)) → wired (λ j. f + j) n gs ≡ wired (λ j. j) (f + n) gs
  wired_from n [] = refl
  wired_from n (g ∷ gs) =
      let e : f + (n + 2) ≡ f + n + 2 = omega arith in
      ap₂ ◌++◌ (adder_from n g) (wired_from (n + 2) gs ∙ ap (λ k. wired (λ j. j) k gs) e)

  reduce_from : (m : ℕ) (ls : List ℕ) (n : ℕ) → reduce (λ j. f + j) m ls n ≡ reduce (λ j. j) m ls (f + n)
  reduce_from zero ls n = refl
  reduce_from (suc m) [] n = refl
  reduce_from (suc m) (a ∷ []) n = refl
  reduce_from (suc m) (a ∷ b ∷ []) n = ap (λ k. record { adders = half a b ∷ []; carries = k ∷ []; left = (f + n) ∷ [] }) (omega arith)
  reduce_from (suc m) (a ∷ b ∷ c ∷ ls) n =
      let e : f + (n + 2) ≡ f + n + 2 = omega arith in
      let d : f + (n + 1) ≡ f + n + 1 = omega arith in
      let ih = reduce_from m (ls ++ (f + n) ∷ []) (n + 2) ∙ ap (reduce (λ j. j) m (ls ++ (f + n) ∷ [])) e in
      ap₂ (λ k r. record { adders = full a b c ∷ r.adders; carries = k ∷ r.carries; left = r.left }) d ih

  lines_shift : (of : ℕ → ℕ) (m k : ℕ) (ws cs : List ℕ) (n : ℕ) → lines of (λ j. f + j) m k ws cs n ≡ lines of (λ j. j) m k ws cs (f + n)
  lines_shift of zero k ws cs n = refl
  lines_shift of (suc m) k ws cs n =
      let line = with_bit of k 0 ws ++ cs in
      let r = reduce (λ j. j) (length line) line (f + n) in
      let e : f + (n + 2 * length r.adders) ≡ f + n + 2 * length r.adders = omega arith in
      ap (λ q. front q (lines of (λ j. f + j) m (k + 1) ws q.carries (n + 2 * length q.adders))) (reduce_from (length line) line n) ∙
      ap (front r) (lines_shift of m (k + 1) ws r.carries (n + 2 * length r.adders) ∙ ap (lines of (λ j. j) m (k + 1) ws r.carries) e)

module _ (vs ws : List ℕ) where
  -- line k, and the lines above it
  pub from_more : (k b c : ℕ) → k < 11 →
      lines_from vs ws k b c ≡ front (reduced (line_of vs ws k b c) (b + 2 * c)) (lines_from vs ws (k + 1) (b + 2 * c) (length (line_of vs ws k b c) / 2))
  unfolding lines_from
  from_more k b c l =
      let line = line_of vs ws k b c in
      let n = b + 2 * c in
      let h = length line / 2 in
      let r = reduced line n in
      let e : 11 - k ≡ suc (11 - (k + 1)) = omega arith in
      let up : List ℕ → ℕ → Network ℕ = λ cs z. lines (λ i. get_or vs i 0) (λ j. j) (11 - (k + 1)) (k + 1) ws cs z in
      ap (λ m. lines (λ i. get_or vs i 0) (λ j. j) m k ws (seconds (b + 1) c) n) e ∙
      ap (front r) (ap₂ up (carries_are line n) (ap (λ z. n + 2 * z) (adders_half line n)))

  pub from_last : (b c : ℕ) → lines_from vs ws 11 b c ≡ record { adders = []; bits = [] }
  unfolding lines_from
  from_last b c = refl

  pub from_first : (f : ℕ) → network (λ i. get_or vs i 0) (λ j. f + j) ws ≡ lines_from vs ws 0 f 0
  unfolding lines_from network
  from_first f =
      lines_shift f (λ i. get_or vs i 0) 11 0 ws [] 0

-- the whole formula over numbers
pub formula_from : (vs ws : List ℕ) (t f : ℕ) →
    plain (adder_formula (λ i. get_or vs i 0) (λ j. f + j) ws t) ≡
    wiring f (lines_from vs ws 0 f 0).adders ++ plain (closing (get_or vs 0 0) 0 t (lines_from vs ws 0 f 0).bits)
formula_from vs ws t f =
    let w = network (λ i. get_or vs i 0) (λ j. f + j) ws in
    let e : f + 0 ≡ f = omega arith in
    plain_append (wired (λ j. f + j) 0 w.adders) (closing (get_or vs 0 0) 0 t w.bits) ∙
    ap (λ l. plain l ++ plain (closing (get_or vs 0 0) 0 t w.bits)) (wired_from f 0 w.adders ∙ ap (λ k. wired (λ j. j) k w.adders) e) ∙
    ap (λ u. wiring f u.adders ++ plain (closing (get_or vs 0 0) 0 t u.bits)) (from_first vs ws f)

-- How many adders there are.
with_bit_length : {A B : Type 0} (of : ℕ → A) (of' : ℕ → B) (k i : ℕ) (ws : List ℕ) → length (with_bit of k i ws) ≡ length (with_bit of' k i ws)
with_bit_length of of' k i [] = refl
with_bit_length of of' k i (w ∷ ws) =
    let ih = with_bit_length of of' k (i + 1) ws in
    elim (cases_Bool (has_bit k w)) [
      | inl e ↦ rw e (ap suc ih)
      | inr e ↦ rw e ih
    ]

pub with_bit_few : {A : Type 0} (of : ℕ → A) (k i : ℕ) (ws : List ℕ) → length (with_bit of k i ws) ≤ length ws
with_bit_few of k i [] = omega arith
with_bit_few of k i (w ∷ ws) =
    let ih = with_bit_few of k (i + 1) ws in
    elim (cases_Bool (has_bit k w)) [
      | inl e ↦ rw e (omega arith)
      | inr e ↦ rw e (omega arith)
    ]

pub line_length : (vs ws : List ℕ) (k b c : ℕ) → length (line_of vs ws k b c) ≡ length (with_bit (λ i. i) k 0 ws) + c
line_length vs ws k b c =
    omega (arith, length-append (with_bit (λ i. get_or vs i 0) k 0 ws) (seconds (b + 1) c), seconds_length (b + 1) c, with_bit_length (λ i. get_or vs i 0) (λ i. i) k 0 ws)

module _ (ws : List ℕ) where
  pub count_more : (k c : ℕ) → k < 11 → count_from ws k c ≡ adders_in k ws c + count_from ws (k + 1) (adders_in k ws c)
  unfolding count_from
  count_more k c l =
      let e : 11 - k ≡ suc (11 - (k + 1)) = omega arith in
      ap (λ m. adder_count m k ws c) e

  pub count_last : (c : ℕ) → count_from ws 11 c ≡ 0
  unfolding count_from
  count_last c = refl

  pub few_adders : (k c : ℕ) → length ws ≤ 96 → c ≤ 96 → adders_in k ws c ≤ 96
  few_adders k c l m = omega (arith, with_bit_few (λ i. i) k 0 ws)

count_lines : (vs ws : List ℕ) (m k b c : ℕ) →
    length (lines (λ i. get_or vs i 0) (λ j. j) m k ws (seconds (b + 1) c) (b + 2 * c)).adders ≡ adder_count m k ws c
count_lines vs ws zero k b c = refl
count_lines vs ws (suc m) k b c =
    let line = line_of vs ws k b c in
    let n = b + 2 * c in
    let h = length line / 2 in
    let r = reduced line n in
    let up : List ℕ → ℕ → Network ℕ = λ cs z. lines (λ i. get_or vs i 0) (λ j. j) m (k + 1) ws cs z in
    let size : h ≡ adders_in k ws c = ap (λ z. z / 2) (line_length vs ws k b c) in
    length-append r.adders (up r.carries (n + 2 * length r.adders)).adders ∙
    ap₂ ◌+◌ (adders_half line n) (ap (λ u. length u.adders) (ap₂ up (carries_are line n) (ap (λ z. n + 2 * z) (adders_half line n))) ∙ count_lines vs ws m (k + 1) n h) ∙
    ap (λ z. z + adder_count m (k + 1) ws z) size

pub count_is : (vs ws : List ℕ) (k b c : ℕ) → length (lines_from vs ws k b c).adders ≡ count_from ws k c
unfolding lines_from count_from
count_is vs ws k b c = count_lines vs ws (11 - k) k b c
