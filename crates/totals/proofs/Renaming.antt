-- An adder network over other variables: numbering its formula is the same as building it over the numbers.
use Rattle.std.proofs.Common.{◌≡◌, ℕ, zero, suc, ◌+◌, ◌*◌, Bool, true, false, List, [], ◌∷◌, ◌++◌, map, length, sym, refl, ap, ◌∙◌, ap₂, inl, inr}
use Rattle.std.proofs.lemmas.List.{length-map, map-append}
use Rattle.std.proofs.lemmas.Bool.{cases_Bool}
use Rattle.formulas.specs.Numbered.{numbered, plain, signed}
use Rattle.totals.specs.Adders.{Adder, full, half, Network, Reduced, adder_clauses, adder_formula, close, closing, has_bit, lines, network, reduce, wired, with_bit}

module _ {A : Type 0} (N : A → ℕ) where
  abbrev pub adder_over : Adder A → Adder ℕ
  adder_over (full a b c) = full (N a) (N b) (N c)
  adder_over (half a b) = half (N a) (N b)

  abbrev pub reduced_over : Reduced A → Reduced ℕ
  reduced_over r = record { adders = map adder_over r.adders; carries = map N r.carries; left = map N r.left }

  abbrev pub network_over : Network A → Network ℕ
  network_over w = record { adders = map adder_over w.adders; bits = map (map N) w.bits }

  adder_same : (new : ℕ → A) (n : ℕ) (g : Adder A) → numbered N (adder_clauses new n g) ≡ plain (adder_clauses (λ j. N (new j)) n (adder_over g))
  adder_same new n (full a b c) = refl
  adder_same new n (half a b) = refl

  wired_same : (new : ℕ → A) (n : ℕ) (gs : List (Adder A)) → numbered N (wired new n gs) ≡ plain (wired (λ j. N (new j)) n (map adder_over gs))
  wired_same new n [] = refl
  wired_same new n (g ∷ gs) =
      map-append (map (signed N)) (adder_clauses new n g) (wired new (n + 2) gs) ∙ ap₂ ◌++◌ (adder_same new n g) (wired_same new (n + 2) gs) ∙
      sym (map-append (map (signed (λ x. x))) (adder_clauses (λ j. N (new j)) n (adder_over g)) (wired (λ j. N (new j)) (n + 2) (map adder_over gs)))

  close_same : (y : A) (b : Bool) (l : List A) → numbered N (close y b l) ≡ plain (close (N y) b (map N l))
  close_same y true [] = refl
  close_same y false [] = refl
  close_same y true (a ∷ l) = refl
  close_same y false (a ∷ l) = refl

  closing_same : (y : A) (k t : ℕ) (ls : List (List A)) → numbered N (closing y k t ls) ≡ plain (closing (N y) k t (map (map N) ls))
  closing_same y k t [] = refl
  closing_same y k t (l ∷ ls) =
      map-append (map (signed N)) (close y (has_bit k t) l) (closing y (k + 1) t ls) ∙ ap₂ ◌++◌ (close_same y (has_bit k t) l) (closing_same y (k + 1) t ls) ∙
      sym (map-append (map (signed (λ x. x))) (close (N y) (has_bit k t) (map N l)) (closing (N y) (k + 1) t (map (map N) ls)))

  with_bit_same : (of : ℕ → A) (k i : ℕ) (ws : List ℕ) → with_bit (λ j. N (of j)) k i ws ≡ map N (with_bit of k i ws)
  with_bit_same of k i [] = refl
  with_bit_same of k i (w ∷ ws) =
      let ih = with_bit_same of k (i + 1) ws in
      elim (cases_Bool (has_bit k w)) [
        | inl e ↦ rw e (ap (λ l. N (of i) ∷ l) ih)
        | inr e ↦ rw e ih
      ]

  reduce_same : (new : ℕ → A) (m : ℕ) (ls : List A) (n : ℕ) → reduce (λ j. N (new j)) m (map N ls) n ≡ reduced_over (reduce new m ls n)
  reduce_same new zero ls n = refl
  reduce_same new (suc m) [] n = refl
  reduce_same new (suc m) (a ∷ []) n = refl
  reduce_same new (suc m) (a ∷ b ∷ []) n = refl
  reduce_same new (suc m) (a ∷ b ∷ c ∷ ls) n =
      let step : Reduced ℕ → Reduced ℕ = λ r. record { adders = full (N a) (N b) (N c) ∷ r.adders; carries = N (new (n + 1)) ∷ r.carries; left = r.left } in
      ap (λ l. step (reduce (λ j. N (new j)) m l (n + 2))) (sym (map-append N ls (new n ∷ []))) ∙ ap step (reduce_same new m (ls ++ new n ∷ []) (n + 2))

  lines_same : (of new : ℕ → A) (m k : ℕ) (ws : List ℕ) (cs : List A) (n : ℕ) →
      lines (λ i. N (of i)) (λ j. N (new j)) m k ws (map N cs) n ≡ network_over (lines of new m k ws cs n)
  lines_same of new zero k ws cs n = refl
  lines_same of new (suc m) k ws cs n =
      let line = with_bit of k 0 ws ++ cs in
      let r = reduce new (length line) line n in
      let over : with_bit (λ i. N (of i)) k 0 ws ++ map N cs ≡ map N line = ap (λ l. l ++ map N cs) (with_bit_same of k 0 ws) ∙ sym (map-append N (with_bit of k 0 ws) cs) in
      let red : reduce (λ j. N (new j)) (length (map N line)) (map N line) n ≡ reduced_over r =
      ap (λ z. reduce (λ j. N (new j)) z (map N line) n) (length-map line N) ∙ reduce_same new (length line) line n in
      let rest : Reduced ℕ → Network ℕ = λ q. lines (λ i. N (of i)) (λ j. N (new j)) m (k + 1) ws q.carries (n + 2 * length q.adders) in
      let make : Reduced ℕ → Network ℕ = λ q. record { adders = q.adders ++ (rest q).adders; bits = q.left ∷ (rest q).bits } in
      let size = length-map r.adders adder_over in
      let ih = lines_same of new m (k + 1) ws r.carries (n + 2 * length r.adders) in
      let below = lines of new m (k + 1) ws r.carries (n + 2 * length r.adders) in
      let front : Network ℕ → Network ℕ = λ w. record { adders = map adder_over r.adders ++ w.adders; bits = map N r.left ∷ w.bits } in
      ap (λ l. make (reduce (λ j. N (new j)) (length l) l n)) over ∙ ap make red ∙
      ap front (ap (λ z. lines (λ i. N (of i)) (λ j. N (new j)) m (k + 1) ws (map N r.carries) (n + 2 * z)) size ∙ ih) ∙
      ap (λ gs. record { adders = gs; bits = map N r.left ∷ map (map N) below.bits }) (sym (map-append adder_over r.adders below.adders))

  pub network_same : (of new : ℕ → A) (ws : List ℕ) → network (λ i. N (of i)) (λ j. N (new j)) ws ≡ network_over (network of new ws)
  unfolding network
  network_same of new ws = lines_same of new 11 0 ws [] 0

  pub formula_same : (of new : ℕ → A) (ws : List ℕ) (t : ℕ) →
      numbered N (adder_formula of new ws t) ≡ plain (adder_formula (λ i. N (of i)) (λ j. N (new j)) ws t)
  formula_same of new ws t =
      let w = network of new ws in
      let v = network (λ i. N (of i)) (λ j. N (new j)) ws in
      let e = network_same of new ws in
      map-append (map (signed N)) (wired new 0 w.adders) (closing (of 0) 0 t w.bits) ∙
      ap₂ ◌++◌ (wired_same new 0 w.adders) (closing_same (of 0) 0 t w.bits) ∙
      ap (λ u. plain (wired (λ j. N (new j)) 0 u.adders) ++ plain (closing (N (of 0)) 0 t u.bits)) (sym e) ∙
      sym (map-append (map (signed (λ x. x))) (wired (λ j. N (new j)) 0 v.adders) (closing (N (of 0)) 0 t v.bits))
