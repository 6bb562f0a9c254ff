-- A line that is taken down by one adder after the other.
use Rattle.std.proofs.Common.{◌≡◌, ℕ, ◌+◌, ◌-◌, ◌*◌, ◌/◌, ◌<◌, ◌≤◌, List, [], ◌∷◌, ◌++◌, length, get_or, take, drop, min, slice_get, IsErrAnd, Some, None, Ok, Err, Option, Result, subst, sym, refl, ap, ◌∙◌, arith}
use Rattle.std.proofs.lemmas.List.{drop-map, drop_all, drop-append-le, drop-drop, length-drop, length-map, length_push}
use Rattle.formulas.proofs.Lists.{rest_is}
use Rattle.places.specs.declared.fault.PlaceFault.{PlaceFault}
use Rattle.places.specs.declared.place.Place.{Ghosts}
use Rattle.places.specs.Written.{Writes}
use Rattle.places.proofs.Written.{Left, left_all, left_exit, left_more}
use Rattle.totals.specs.Adders.{full, half}
use Rattle.totals.specs.Numbers.{first_adder, reduced, wiring}
use Rattle.totals.proofs.Numbers.{reduced_few, reduced_turn, wiring_append}
use Rattle.adder_network.specs.declared.variable.Variable.{Variable}
use Rattle.adder_network.specs.Variables.{TakenDown, bit_of, number_of, numbers}

-- the line was ls₀, and n₀ the next fresh number; now it is ls, which lies in its space up to e, and n is next
pub record Reducing {P : Type 0} (𝓟 : Ghosts P) (ls₀ : List ℕ) (n₀ : ℕ) (p₀ : P) (ls : List ℕ) (e n : ℕ) (p : P) : Type 0 where
  -- what is still to be written
  pub rest : Left 𝓟 (wiring n₀ (reduced ls₀ n₀).adders) p₀ (wiring n (reduced ls n).adders) p
  pub left : (reduced ls n).left ≡ (reduced ls₀ n₀).left
  pub space : e + length ls / 2 ≤ 288
  pub low : 1 ≤ n
  pub room : 2 ≤ length ls → n + 2 * (length ls / 2) ≤ 65536

first_three : (ls : List ℕ) (t : ℕ) → t ≡ min 3 (length ls) → drop t ls ≡ drop 3 ls
first_three [] t e = drop_all t [] (omega arith)
first_three (a ∷ []) t e = drop_all t (a ∷ []) (omega arith)
first_three (a ∷ b ∷ []) t e = drop_all t (a ∷ b ∷ []) (omega arith)
first_three (a ∷ b ∷ c ∷ ls) t e = let three : t ≡ 3 = omega arith in ap (λ m. drop m (a ∷ b ∷ c ∷ ls)) three

-- what stands in the line after a turn, where t more are taken from behind the first k, and n comes to the end
turned : (ls : List ℕ) (k t n : ℕ) → k ≤ length ls → t ≡ min 3 (length (drop k ls)) → drop (k + t) (ls ++ n ∷ []) ≡ drop 3 (drop k ls) ++ n ∷ []
turned ls k t n l e =
    let s = length-drop k ls in
    drop-append-le (k + t) ls (n ∷ []) (omega arith) ∙
    ap (λ r. r ++ n ∷ []) (sym (drop-drop t k ls) ∙ first_three (drop k ls) t e)

-- the bit that is left, and the adder of the code's variables
pub bit_first : (s : List Variable) → number_of (slice_get s 0) ≡ bit_of (numbers s)
bit_first [] = refl
bit_first (v ∷ s) = refl

pub full_of : (s : List Variable) (a b c : Variable) → a ≡ get_or s 0 a → b ≡ get_or s 1 b → c ≡ get_or s 2 c → 3 ≤ length s →
    full a.number b.number c.number ≡ first_adder (numbers s)
full_of [] a b c ea eb ec l = absurd (omega arith)
full_of (x ∷ []) a b c ea eb ec l = absurd (omega arith)
full_of (x ∷ y ∷ []) a b c ea eb ec l = absurd (omega arith)
full_of (x ∷ y ∷ z ∷ s) a b c ea eb ec l =
    ap (λ v. full v.number b.number c.number) ea ∙ ap (λ v. full x.number v.number c.number) eb ∙ ap (λ v. full x.number y.number v.number) ec

pub half_of : (s : List Variable) (a b : Variable) → a ≡ get_or s 0 a → b ≡ get_or s 1 b → 2 ≤ length s → length s < 3 →
    half a.number b.number ≡ first_adder (numbers s)
half_of [] a b ea eb l u = absurd (omega arith)
half_of (x ∷ []) a b ea eb l u = absurd (omega arith)
half_of (x ∷ y ∷ []) a b ea eb l u = ap (λ v. half v.number b.number) ea ∙ ap (λ v. half x.number v.number) eb
half_of (x ∷ y ∷ z ∷ s) a b ea eb l u = absurd (omega arith)

-- what stands in the line behind the first k, as the code slices it
pub standing_is : (s items : List Variable) (k : ℕ) → s ≡ items → numbers (take (length s - k) (drop k s)) ≡ drop k (numbers items)
standing_is s items k e = ap (λ l. numbers (take (length l - k) (drop k l))) e ∙ ap numbers (rest_is items k) ∙ sym (drop-map (λ v. v.number) k items)

-- what a `?` hands on
pub taken_exit : {P : Type 0} (𝓟 : Ghosts P) (ls : List ℕ) (n : ℕ) (p q : P) (e : PlaceFault) (r : Result (Option Variable) PlaceFault) → IsErrAnd r (λ y. y ≡ e) →
    Writes 𝓟 (wiring n (reduced ls n).adders) p q (Some e) → TakenDown 𝓟 ls n p q r
taken_exit 𝓟 ls n p q e (Ok bit) by w = absurd by
taken_exit 𝓟 ls n p q e (Err y) by w = subst (λ z. Writes 𝓟 (wiring n (reduced ls n).adders) p q (Some z)) (sym by) w

module _ {P : Type 0} (𝓟 : Ghosts P) (ls₀ : List ℕ) (n₀ : ℕ) (p₀ : P) where
  pub reducing_none : (e : ℕ) → e + length ls₀ / 2 ≤ 288 → 1 ≤ n₀ → (2 ≤ length ls₀ → n₀ + 2 * (length ls₀ / 2) ≤ 65536) → Reducing 𝓟 ls₀ n₀ p₀ ls₀ e n₀ p₀
  reducing_none e s l r = record { rest = λ q o w. w; left = refl; space = s; low = l; room = r }

  module _ (ls : List ℕ) (e n : ℕ) (p : P) (h : Reducing 𝓟 ls₀ n₀ p₀ ls e n p) where
    pub reducing_all : length ls ≤ 1 → Writes 𝓟 (wiring n₀ (reduced ls₀ n₀).adders) p₀ p None × (ls ≡ (reduced ls₀ n₀).left)
    reducing_all l =
        let few = reduced_few ls n l in
        (left_all 𝓟 _ p₀ _ p h.rest (ap (λ r. wiring n r.adders) few), sym (ap (λ r. r.left) few) ∙ h.left)

    module _ (l : 2 ≤ length ls) (q : P) where
      abbrev pub after : List ℕ
      after = drop 3 ls ++ n ∷ []

      pub size : (length after / 2) + 1 ≡ length ls / 2
      size = omega (arith, length_push (drop 3 ls) n, length-drop 3 ls)

      split : wiring n (reduced ls n).adders ≡ wiring n (first_adder ls ∷ []) ++ wiring (n + 2) (reduced after (n + 2)).adders
      split = ap (λ r. wiring n r.adders) (reduced_turn ls n l) ∙ wiring_append n (first_adder ls ∷ []) (reduced after (n + 2)).adders

      pub reducing_more : Writes 𝓟 (wiring n (first_adder ls ∷ [])) p q None → Reducing 𝓟 ls₀ n₀ p₀ after (e + 1) (n + 2) q
      reducing_more w = record {
        rest = left_more 𝓟 _ p₀ _ p h.rest (wiring n (first_adder ls ∷ [])) (wiring (n + 2) (reduced after (n + 2)).adders) split q w;
        left = sym (ap (λ r. r.left) (reduced_turn ls n l)) ∙ h.left;
        space = omega (arith, size, h.space);
        low = omega (arith, h.low);
        room = λ m. omega (arith, size, h.room l);
      }

      pub reducing_exit : (f : PlaceFault) → Writes 𝓟 (wiring n (first_adder ls ∷ [])) p q (Some f) → Writes 𝓟 (wiring n₀ (reduced ls₀ n₀).adders) p₀ q (Some f)
      reducing_exit = left_exit 𝓟 _ p₀ _ p h.rest (wiring n (first_adder ls ∷ [])) (wiring (n + 2) (reduced after (n + 2)).adders) split q

  -- after a turn, where the line stands in its space behind the first k, and t more are taken
  pub line_turn : (items items' : List Variable) (k t n : ℕ) (p q : P) → numbers items' ≡ numbers items ++ n ∷ [] → k ≤ length items →
      Reducing 𝓟 ls₀ n₀ p₀ (drop k (numbers items)) (length items) n p → 2 ≤ length (drop k (numbers items)) → t ≡ min 3 (length (drop k (numbers items))) →
      Writes 𝓟 (wiring n (first_adder (drop k (numbers items)) ∷ [])) p q None →
      (k + t ≤ length items') × Reducing 𝓟 ls₀ n₀ p₀ (drop (k + t) (numbers items')) (length items') (n + 2) q
  line_turn items items' k t n p q em l h m e w =
      let size = length-map items (λ v. v.number) in
      let s = length-drop k (numbers items) in
      let end_is : length items' ≡ length items + 1 = omega (arith, size, length-map items' (λ v. v.number), ap length em ∙ length_push (numbers items) n) in (
        omega (arith, end_is, size, s, e),
        subst (λ z. Reducing 𝓟 ls₀ n₀ p₀ (drop (k + t) (numbers items')) z (n + 2) q) (sym end_is)
            (subst (λ z. Reducing 𝓟 ls₀ n₀ p₀ z (length items + 1) (n + 2) q) (sym (ap (drop (k + t)) em ∙ turned (numbers items) k t n (omega (arith, size, l)) e))
            (reducing_more (drop k (numbers items)) (length items) n p h m q w)),
      )
