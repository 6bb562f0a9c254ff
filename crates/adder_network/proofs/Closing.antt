-- The bits of the lines against the target's.
use Rattle.std.proofs.Common.{◌≡◌, ℕ, ◌+◌, ◌<◌, Bool, true, false, List, [], ◌∷◌, ◌++◌, map, length, get_or, ℤ, None, Option, refl, ap, ◌∙◌, ap₂, subst, sym}
use Rattle.std.specs.List.{flat_map}
use Rattle.std.proofs.lemmas.List.{drop_more, map-append}
use Rattle.formulas.specs.Numbered.{plain}
use Rattle.places.specs.declared.fault.PlaceFault.{PlaceFault}
use Rattle.places.specs.declared.place.Place.{Ghosts}
use Rattle.places.specs.Written.{Writes}
use Rattle.places.proofs.Loops.{below, counted_is}
use Rattle.totals.specs.Adders.{close, closing, has_bit}
use Rattle.adder_network.specs.declared.variable.Variable.{Variable}
use Rattle.adder_network.specs.Variables.{bit_of, listed, number_of}

-- only a line's first variable counts
close_bit : (y : ℕ) (b : Bool) (l : List ℕ) → close y b (listed (bit_of l)) ≡ close y b l
close_bit y true [] = refl
close_bit y false [] = refl
close_bit y true (a ∷ l) = refl
close_bit y false (a ∷ l) = refl

pub closing_bits : (y k t : ℕ) (ls : List (List ℕ)) → closing y k t (map listed (map bit_of ls)) ≡ closing y k t ls
closing_bits y k t [] = refl
closing_bits y k t (l ∷ ls) = ap₂ ◌++◌ (close_bit y (has_bit k t) l) (closing_bits y (k + 1) t ls)

-- what is said of line k
abbrev pub line_turn : ℕ → ℕ → List (Option Variable) → ℕ → List (List ℤ)
line_turn y t bits k = plain (close y (has_bit k t) (listed (number_of (get_or bits k None))))

module _ (y t : ℕ) (bits : List (Option Variable)) where
  pub closing_is : plain (closing y 0 t (map listed (map number_of bits))) ≡ flat_map (line_turn y t bits) (below (length bits) 0)
  closing_is =
      counted_is (λ k bs. plain (closing y k t (map listed (map number_of bs)))) (λ k b. plain (close y (has_bit k t) (listed (number_of b)))) (λ k. refl)
      (λ k b bs. map-append _ (close y (has_bit k t) (listed (number_of b))) (closing y (k + 1) t (map listed (map number_of bs)))) bits None

  -- the same, where the code has the bit as b
  pub line_as : {P : Type 0} (𝓟 : Ghosts P) (k : ℕ) (b : Bool) (x : Option Variable) (p q : P) (o : Option PlaceFault) → b ≡ has_bit k t → k < length bits → x ≡ get_or bits k x →
      Writes 𝓟 (plain (close y b (listed (number_of x)))) p q o → Writes 𝓟 (line_turn y t bits k) p q o
  line_as 𝓟 k b x p q o e l i w =
      let same : get_or bits k x ≡ get_or bits k None = ap (λ bs. get_or bs 0 None) (sym (drop_more bits k x l) ∙ drop_more bits k None l) in
      subst (λ z. Writes 𝓟 (plain (close y (has_bit k t) (listed (number_of z)))) p q o) (i ∙ same)
      (subst (λ z. Writes 𝓟 (plain (close y z (listed (number_of x)))) p q o) e w)
