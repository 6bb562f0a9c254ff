-- A totaller that keeps its law makes sums over cells that do.
use Rattle.std.proofs.Common.{◌≡◌, ℕ, zero, suc, ◌+◌, ◌*◌, ◌<◌, ◌≤◌, Bool, true, false, not, eqb, ◌≢◌, ◌↔◌, List, [], ◌∷◌, ◌++◌, map, length, get_or, None, sym, refl, ap, ◌∙◌, ap₂, inl, inr, arith}
use Rattle.std.specs.List.{range_with_len, AllByRecursion as Each}
use Rattle.std.specs.Option.{option_or}
use Rattle.std.proofs.lemmas.List.FromFn.{length-range_with_len, length-map-range_with_len}
use Rattle.std.proofs.ByRecursion.{All-append, All-get_or, All-map, All-weaker}
use Rattle.std.proofs.lemmas.List.{get_or-map, length-append, length-map, map-append, map-id}
use Rattle.std.proofs.lemmas.Bool.{cases_eq, eq-eqb, ne_eqb}
use Rattle.std.proofs.lemmas.Bool.Decides.{nat_tests}
use Rattle.formulas.specs.Formula.{Literal, is, isnt, SpeaksOf, under, variable, SizedClause}
use Rattle.formulas.proofs.All.{all_counting_in, all_joined_in}
use Rattle.totals.specs.Items as sum
use Rattle.totals.specs.Items.{Item, item, Known, valued}
use Rattle.totals.specs.Totaller as totaller
use Rattle.totals.specs.Totaller.{Totaller, total, Weight}
use Rattle.totallers.specs.Writing.{taking_fault}
use Rattle.totallers.proofs.Faultless.{both_none, taking_none}
use Rattle.boards.specs.declared.board.Board.{Board}
use Rattle.boards.specs.Board.{cells, side}
use Rattle.boards.specs.Atoms.{Atom, at, fresh}
use Rattle.rules.specs.Grid.{Grid}
use Rattle.rules.specs.Rule.{Fulfils, given, Inside, Rule, Sound}
use Rattle.rules.proofs.Base.{digit_at}
use Rattle.rules.proofs.Truth.{mapped_in, mapped_out}
use Rattle.meanings.specs.Sum.{adding_fault, cell_items, cell_weights, digit_sum, large_fault, literal, named, sum_formula}
use Rattle.meanings.proofs.Faults.{by_none}
use Rattle.meanings.proofs.Says.{inside_more}

-- the values that a grid gives to variables of cells
abbrev pub hot : List ℕ → List Atom → List Bool
hot g atoms = map (given g []) atoms

total_append : (ws us : List ℕ) (xs ys : List Bool) → length xs ≡ length ws → total (ws ++ us) (xs ++ ys) ≡ total ws xs + total us ys
total_append [] us [] ys e = omega arith
total_append [] us (x ∷ xs) ys e = absurd (omega arith)
total_append (w ∷ ws) us [] ys e = absurd (omega arith)
total_append (w ∷ ws) us (x ∷ xs) ys e = omega (arith, total_append ws us xs ys (omega arith))

-- of one cell with the digit x, no more than the weight of that digit counts
module _ (weight : ℕ → ℕ) (x : ℕ) where
  abbrev pub counted : ℕ → ℕ → ℕ
  counted a n = total (map weight (range_with_len a n)) (map (eqb x) (range_with_len a n))

  pub none_counted : (a n : ℕ) → ((d : ℕ) → a ≤ d → d < a + n → x ≢ d) → counted a n ≡ 0
  none_counted a zero h = refl
  none_counted a (suc n) h =
      let e = ne_eqb x a (h a (omega arith) (omega arith)) in
      rw e (omega (arith, none_counted (a + 1) n (λ d l u. h d (omega arith) (omega arith))))

  pub one_counted : (a n : ℕ) → a ≤ x → x < a + n → counted a n ≡ weight x
  one_counted a zero l u = absurd (omega arith)
  one_counted a (suc n) l u =
      elim (cases_eq x a) [
        | inl q ↦
            let e = eq-eqb x a q in
            rw e (omega (arith, none_counted (a + 1) n (λ d l u. λ p. omega arith), ap weight q))
        | inr q ↦ let e = ne_eqb x a q in rw e (omega (arith, one_counted (a + 1) n (omega arith) (omega arith)))
      ]

module _ (g : List ℕ) where
  hot_digits : (c : ℕ) (ds : List ℕ) → hot g (map (at c) ds) ≡ map (eqb (get_or g c 0)) ds
  hot_digits c [] = refl
  hot_digits c (d ∷ ds) = ap (λ l. eqb (get_or g c 0) d ∷ l) (hot_digits c ds)

  -- some digits of one cell
  pub total_cell : (weight : ℕ → ℕ) (c a n : ℕ) → total (map weight (range_with_len a n)) (hot g (map (at c) (range_with_len a n))) ≡ counted weight (get_or g c 0) a n
  total_cell weight c a n = ap (total (map weight (range_with_len a n))) (hot_digits c (range_with_len a n))

  -- some items, and then others
  pub total_both : (ws us : List ℕ) (atoms more : List Atom) → length atoms ≡ length ws →
      total (ws ++ us) (hot g (atoms ++ more)) ≡ total ws (hot g atoms) + total us (hot g more)
  total_both ws us atoms more e =
      ap (total (ws ++ us)) (map-append (given g []) atoms more) ∙ total_append ws us (hot g atoms) (hot g more) (length-map atoms (given g []) ∙ e)

module _ (b : Board) where
  pub items_length : (cs : List ℕ) → length (cell_items b cs) ≡ length cs * side b
  items_length [] = omega arith
  items_length (c ∷ cs) =
      omega (arith, length-append (map (at c) (range_with_len 1 (side b))) (cell_items b cs), length-map-range_with_len (at c) 1 (side b), items_length cs)

  pub weights_length : (cs : List ℕ) → length (cell_weights b cs) ≡ length cs * side b
  weights_length [] = omega arith
  weights_length (c ∷ cs) = omega (arith, length-append (range_with_len 1 (side b)) (cell_weights b cs), length-range_with_len 1 (side b), weights_length cs)

  -- some digits of one cell
  pub digits_inside : (c n : ℕ) → c < cells b → n ≤ side b → Each (Inside b 0) (map (at c) (range_with_len 1 n))
  digits_inside c n l u = All-map (Inside b 0) (at c) (range_with_len 1 n) (all_counting_in _ 1 n (λ d low high. (l, (low, omega arith))))

  -- each item is a cell with a digit
  pub items_inside : (cs : List ℕ) → Each (λ c. c < cells b) cs → Each (Inside b 0) (cell_items b cs)
  items_inside cs on = all_joined_in (Inside b 0) _ cs (All-weaker _ _ (λ c l. digits_inside c (side b) l (omega arith)) cs on)

  pub weights_small : side b ≤ 15 → (cs : List ℕ) → Each Weight (cell_weights b cs)
  weights_small small [] = tt
  weights_small small (c ∷ cs) =
      All-append Weight (range_with_len 1 (side b)) _ (all_counting_in Weight 1 (side b) (λ d low high. (low, omega (arith, small)))) (weights_small small cs)

  pub total_digits : (g : List ℕ) → Grid b g → (cs : List ℕ) → Each (λ c. c < cells b) cs → total (cell_weights b cs) (hot g (cell_items b cs)) ≡ digit_sum g cs
  total_digits g G [] on = refl
  total_digits g G (c ∷ cs) on =
      let n = side b in
      let i = digit_at b g G c on.0 in
      let e = length-map-range_with_len (at c) 1 n ∙ sym (length-range_with_len 1 n) in
      total_both g (range_with_len 1 n) (cell_weights b cs) (map (at c) (range_with_len 1 n)) (cell_items b cs) e ∙
      ap₂ ◌+◌
      (ap (λ ws. total ws (hot g (map (at c) (range_with_len 1 n)))) (sym (map-id (range_with_len 1 n))) ∙
      total_cell g (λ d. d) c 1 n ∙ one_counted (λ d. d) (get_or g c 0) 1 n i.0 (omega arith))
      (total_digits g G cs on.1)

-- what the totaller's items are called, where they are cells with digits
module _ (b : Board) (atoms : List Atom) (inside : Each (Inside b 0) atoms) (m : ℕ) where
  abbrev Of : Item → Type 0
  Of = Known (length atoms) m

  named_inside : (a : Item) → Of a → Inside b m (named atoms a)
  named_inside (item i) l = inside_more b m _ (All-get_or (Inside b 0) atoms i (at 0 0) l inside)
  named_inside (sum.fresh j) l = l

  literal_inside : (l : Literal Item) → Of (variable l) → Inside b m (variable (literal atoms l))
  literal_inside (is a) h = named_inside a h
  literal_inside (isnt a) h = named_inside a h

  module _ (g : List ℕ) (fs : List Bool) where
    no_fresh : (a : Atom) → Inside b 0 a → given g fs a ≡ given g [] a
    no_fresh (at c d) h = refl
    no_fresh (fresh j) h = absurd (omega arith)

    named_value : (a : Item) → Of a → given g fs (named atoms a) ≡ valued (hot g atoms) fs a
    named_value (item i) l =
        no_fresh (named atoms (item i)) (All-get_or (Inside b 0) atoms i (at 0 0) l inside) ∙ sym (get_or-map (given g []) atoms i (at 0 0) false l)
    named_value (sum.fresh j) l = refl

    literal_value : (l : Literal Item) → Of (variable l) → under (given g fs) (literal atoms l) ≡ under (valued (hot g atoms) fs) l
    literal_value (is a) h = named_value a h
    literal_value (isnt a) h = ap not (named_value a h)

-- the rule of a sum, where the totaller keeps its law
module _ (𝓣 : Totaller) (b : Board) (atoms : List Atom) (ws : List ℕ) (t : ℕ) (test : List ℕ → Bool)
    (inside : Each (Inside b 0) atoms) (same : length atoms ≡ length ws) (T : totaller.Sound 𝓣 ws t) where
  abbrev count : ℕ
  count = 𝓣.fresh_count ws t

  abbrev sum_rule : Rule
  sum_rule = record { keeps = test; fresh_count = count; formula = sum_formula 𝓣 atoms ws t }

  known : SpeaksOf (Known (length atoms) count) (𝓣.formula ws t)
  known = rw same T.contained

  contained : SpeaksOf (Inside b count) sum_rule.formula
  contained =
      All-map _ (map (literal atoms)) (𝓣.formula ws t)
      (All-weaker _ _ (λ c h. All-map _ (literal atoms) c (All-weaker _ _ (literal_inside b atoms inside count) c h)) (𝓣.formula ws t) known)

  sized : Each SizedClause sum_rule.formula
  sized = All-map SizedClause (map (literal atoms)) (𝓣.formula ws t)
      (All-weaker _ _ (λ c h. let e = length-map c (literal atoms) in omega arith) (𝓣.formula ws t) T.sized)

  module _ (g : List ℕ) (fs : List Bool) where
    fulfils_out : Fulfils sum_rule g fs → totaller.Fulfils 𝓣 ws t (hot g atoms) fs
    fulfils_out F = record {
      size = F.size;
      holds = mapped_out (under (given g fs)) (under (valued (hot g atoms) fs)) (literal atoms) _ (literal_value b atoms inside count g fs)
          (𝓣.formula ws t) known F.holds;
    }

    fulfils_in : totaller.Fulfils 𝓣 ws t (hot g atoms) fs → Fulfils sum_rule g fs
    fulfils_in F = record {
      size = F.size;
      holds = mapped_in (under (given g fs)) (under (valued (hot g atoms) fs)) (literal atoms) _ (literal_value b atoms inside count g fs)
          (𝓣.formula ws t) known F.holds;
    }

  pub sum_sound : ((g : List ℕ) → Grid b g → (total ws (hot g atoms) ≡ t) ↔ (test g ≡ true)) → Sound b sum_rule
  sum_sound means = record {
    contained = contained;
    sized = sized;
    exact = λ g G clean.
        let X = T.exact (hot g atoms) (length-map atoms (given g []) ∙ same) in
        let m = means g G in
        record {
          only = λ fs F. m.0 (X.only fs (fulfils_out g fs F));
          some = λ h. let (fs, F) = X.some (m.1 h) in (fs, fulfils_in g fs F);
          one = λ fs fs' F F'. X.one fs fs' (fulfils_out g fs F) (fulfils_out g fs' F');
        };
  }

-- where a totaller finds nothing wrong, it takes the items, the digits are weights and the fresh numbers fit
module _ (𝓣 : Totaller) (b : Board) (ws : List ℕ) (t f : ℕ) (h : adding_fault 𝓣 b ws t f ≡ None) where
  parts : (large_fault b ≡ None) × (taking_fault 𝓣 ws t f ≡ None)
  parts = both_none (large_fault b) (taking_fault 𝓣 ws t f) (by_none (option_or (large_fault b) (taking_fault 𝓣 ws t f)) h)

  pub digits_fit : side b ≤ 15
  digits_fit = let e = parts.0 in grind (arith, nat_tests)

  pub taken : 𝓣.takes (length ws) t ≡ true
  taken = (taking_none 𝓣 ws t f parts.1).0

  pub fresh_fit : 1 ≤ 𝓣.fresh_count ws t → f + 𝓣.fresh_count ws t ≤ 65536
  fresh_fit some = let n = (taking_none 𝓣 ws t f parts.1).1 in grind (arith, nat_tests)
