-- The lines of a network, one after the other.
use Rattle.std.proofs.Common.{◌≡◌, ℕ, ◌+◌, ◌*◌, ◌/◌, ◌<◌, ◌≤◌, List, [], ◌∷◌, ◌++◌, map, length, IsErrAnd, Some, None, Ok, Err, Option, Result, sym, refl, ap, ◌∙◌, subst, append_assoc, append-nil, arith}
use Rattle.std.proofs.lemmas.List.{length_push}
use Rattle.places.specs.declared.fault.PlaceFault.{PlaceFault}
use Rattle.places.specs.declared.place.Place.{Ghosts}
use Rattle.places.specs.Written.{Writes}
use Rattle.places.proofs.Written.{Left, left_all, left_exit, left_more}
use Rattle.totals.specs.Numbers.{adders_in, count_from, line_of, lines_from, reduced, wiring}
use Rattle.totals.proofs.Numbers.{adders_half, count_more, from_last, from_more, line_length, wiring_append, with_bit_few}
use Rattle.arrayvec.specs.ArrayVec.{ArrayVec}
use Rattle.adder_network.specs.declared.variable.Variable.{Variable}
use Rattle.adder_network.specs.Variables.{Fitting, Lined, bit_of}

-- the lines below line k are written; the last of them made c carries, by adders with the fresh numbers from b on
pub record Lining {P : Type 0} (𝓟 : Ghosts P) (vs ws : List ℕ) (f : ℕ) (p₀ : P) (k b c : ℕ) (bits : List (Option ℕ)) (p : P) : Type 0 where
  -- what is still to be written
  pub rest : Left 𝓟 (wiring f (lines_from vs ws 0 f 0).adders) p₀ (wiring (b + 2 * c) (lines_from vs ws k b c).adders) p
  pub told : bits ++ map bit_of (lines_from vs ws k b c).bits ≡ map bit_of (lines_from vs ws 0 f 0).bits
  pub size : length bits ≡ k
  pub few : c ≤ 96
  pub low : 1 ≤ b
  pub room : 1 ≤ c + count_from ws k c → b + 2 * (c + count_from ws k c) ≤ 65536

module _ {P : Type 0} (𝓟 : Ghosts P) (vs ws : List ℕ) (f : ℕ) (fit : Fitting vs ws f) (p₀ : P) where
  pub lining_none : Lining 𝓟 vs ws f p₀ 0 f 0 [] p₀
  lining_none = record {
    rest = λ q o w. let e : f + 2 * 0 ≡ f = omega arith in subst (λ n. Writes 𝓟 (wiring n (lines_from vs ws 0 f 0).adders) p₀ q o) e w;
    told = refl;
    size = refl;
    few = omega arith;
    low = fit.low;
    room = λ l. omega (arith, fit.room (omega arith));
  }

  module _ (k b c : ℕ) (bits : List (Option ℕ)) (p : P) (h : Lining 𝓟 vs ws f p₀ k b c bits p) where
    pub lining_all : 11 ≤ k → k ≤ 11 → Writes 𝓟 (wiring f (lines_from vs ws 0 f 0).adders) p₀ p None × (bits ≡ map bit_of (lines_from vs ws 0 f 0).bits)
    lining_all l u =
        let e : k ≡ 11 = omega arith in
        let last : lines_from vs ws k b c ≡ record { adders = []; bits = [] } = ap (λ m. lines_from vs ws m b c) e ∙ from_last vs ws b c in (
          left_all 𝓟 _ p₀ _ p h.rest (ap (λ w. wiring (b + 2 * c) w.adders) last),
          sym (append-nil bits) ∙ ap (λ w. bits ++ map bit_of w.bits) (sym last) ∙ h.told,
        )

    module _ (l : k < 11) where
      abbrev pub line : List ℕ
      line = line_of vs ws k b c

      abbrev pub next : ℕ
      next = b + 2 * c

      in_line : length line / 2 ≡ adders_in k ws c
      in_line = ap (λ n. n / 2) (line_length vs ws k b c)

      counted : count_from ws k c ≡ length line / 2 + count_from ws (k + 1) (length line / 2)
      counted = count_more ws k c l ∙ ap (λ n. n + count_from ws (k + 1) n) (sym in_line)

      pub line_few : length line ≤ 192
      line_few =
          let n = with_bit_few (λ i. i) k 0 ws in
          omega (arith, line_length vs ws k b c, n, fit.few, h.few)

      pub line_room : 2 ≤ length line → next + 2 * (length line / 2) ≤ 65536
      line_room m = omega (arith, counted, h.room (omega (arith, counted)))

      split : wiring next (lines_from vs ws k b c).adders ≡
          wiring next (reduced line next).adders ++ wiring (next + 2 * (length line / 2)) (lines_from vs ws (k + 1) next (length line / 2)).adders
      split =
          ap (λ w. wiring next w.adders) (from_more vs ws k b c l) ∙
          wiring_append next (reduced line next).adders (lines_from vs ws (k + 1) next (length line / 2)).adders ∙
          ap (λ n. wiring next (reduced line next).adders ++ wiring (next + 2 * n) (lines_from vs ws (k + 1) next (length line / 2)).adders) (adders_half line next)

      module _ (q : P) where
        pub lining_exit : (e : PlaceFault) → Writes 𝓟 (wiring next (reduced line next).adders) p q (Some e) → Writes 𝓟 (wiring f (lines_from vs ws 0 f 0).adders) p₀ q (Some e)
        lining_exit = left_exit 𝓟 _ p₀ _ p h.rest (wiring next (reduced line next).adders) _ split q

        pub lining_more : (bit : Option ℕ) → bit ≡ bit_of (reduced line next).left → Writes 𝓟 (wiring next (reduced line next).adders) p q None →
            Lining 𝓟 vs ws f p₀ (k + 1) next (length line / 2) (bits ++ bit ∷ []) q
        lining_more bit e w =
            let up = lines_from vs ws (k + 1) next (length line / 2) in
            record {
              rest = left_more 𝓟 _ p₀ _ p h.rest (wiring next (reduced line next).adders) (wiring (next + 2 * (length line / 2)) up.adders) split q w;
              told =
                  append_assoc bits (bit ∷ []) (map bit_of up.bits) ∙
                  ap (λ x. bits ++ x ∷ map bit_of up.bits) e ∙ ap (λ w. bits ++ map bit_of w.bits) (sym (from_more vs ws k b c l)) ∙ h.told;
              size = omega (arith, length_push bits bit, h.size);
              few = omega (arith, line_few);
              low = omega (arith, h.low);
              room = λ m. omega (arith, counted, h.room (omega (arith, counted)));
            }

      -- the same, where the code has the line as ls and the next fresh number as n
      module _ (ls : List ℕ) (n : ℕ) (el : ls ≡ line) (en : n ≡ next) where
        pub ready_few : length ls ≤ 192
        ready_few = subst (λ m. length m ≤ 192) (sym el) line_few

        pub ready_room : 2 ≤ length ls → n + 2 * (length ls / 2) ≤ 65536
        ready_room = subst (λ m. 2 ≤ length m → n + 2 * (length m / 2) ≤ 65536) (sym el) (subst (λ z. 2 ≤ length line → z + 2 * (length line / 2) ≤ 65536) (sym en) line_room)

        as_line : (q : P) (o : Option PlaceFault) → Writes 𝓟 (wiring n (reduced ls n).adders) p q o → Writes 𝓟 (wiring next (reduced line next).adders) p q o
        as_line q o w = subst (λ z. Writes 𝓟 (wiring z (reduced line z).adders) p q o) en (subst (λ m. Writes 𝓟 (wiring n (reduced m n).adders) p q o) el w)

        pub exit_as : (q : P) (e : PlaceFault) → Writes 𝓟 (wiring n (reduced ls n).adders) p q (Some e) → Writes 𝓟 (wiring f (lines_from vs ws 0 f 0).adders) p₀ q (Some e)
        exit_as q e w = lining_exit q e (as_line q (Some e) w)

        pub more_as : (q : P) (bit : Option ℕ) → bit ≡ bit_of (reduced ls n).left → Writes 𝓟 (wiring n (reduced ls n).adders) p q None →
            (b' c' : ℕ) → b' ≡ next → c' ≡ length ls / 2 → Lining 𝓟 vs ws f p₀ (k + 1) b' c' (bits ++ bit ∷ []) q
        more_as q bit e w b' c' eb ec =
            let left_is : (reduced ls n).left ≡ (reduced line next).left = ap (λ m. (reduced m n).left) el ∙ ap (λ z. (reduced line z).left) en in
            let made = lining_more q bit (e ∙ ap bit_of left_is) (as_line q None w) in
            subst (λ z. Lining 𝓟 vs ws f p₀ (k + 1) z c' (bits ++ bit ∷ []) q) (sym eb)
            (subst (λ z. Lining 𝓟 vs ws f p₀ (k + 1) next z (bits ++ bit ∷ []) q) (sym (ec ∙ ap (λ m. length m / 2) el)) made)

-- what a `?` hands on
pub lined_exit : {P : Type 0} (𝓟 : Ghosts P) (vs ws : List ℕ) (f : ℕ) (p q : P) (e : PlaceFault) (r : Result (ArrayVec (Option Variable)) PlaceFault) → IsErrAnd r (λ y. y ≡ e) →
    Writes 𝓟 (wiring f (lines_from vs ws 0 f 0).adders) p q (Some e) → Lined 𝓟 vs ws f p q r
lined_exit 𝓟 vs ws f p q e (Ok bits) by w = absurd by
lined_exit 𝓟 vs ws f p q e (Err y) by w = subst (λ z. Writes 𝓟 (wiring f (lines_from vs ws 0 f 0).adders) p q (Some z)) (sym by) w
