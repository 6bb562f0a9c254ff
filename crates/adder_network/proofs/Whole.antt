-- The whole network, where nothing is wrong with what is handed in.
use Rattle.std.proofs.Common.{◌≡◌, ℕ, ◌+◌, ◌*◌, ◌≤◌, true, ◌||◌, eqb, leb, List, [], ◌++◌, map, length, get_or, None, sym, ap, ◌∙◌, arith}
use Rattle.std.proofs.lemmas.List.{length-map}
use Rattle.std.proofs.lemmas.Bool.Decides.{nat_tests}
use Rattle.formulas.specs.Numbered.{plain}
use Rattle.totals.specs.Items.{item, fresh}
use Rattle.totals.specs.Adders.{adders, closing, network}
use Rattle.totals.specs.Numbers.{count_from, lines_from, wiring}
use Rattle.totals.proofs.Numbers.{count_is, formula_from, from_first}
use Rattle.totals.proofs.Renaming.{adder_over, formula_same, network_same}
use Rattle.totallers.specs.Writing.{number, ready_fault, sum_clauses}
use Rattle.totallers.proofs.Faultless.{faultless}
use Rattle.adder_network.specs.Variables.{Fitting, bit_of, listed}
use Rattle.adder_network.proofs.Closing.{closing_bits}

-- the clauses: the adders' and then those of the bits
pub whole_is : (vs ws : List ℕ) (t f : ℕ) →
    sum_clauses adders vs ws t f ≡ wiring f (lines_from vs ws 0 f 0).adders ++ plain (closing (get_or vs 0 0) 0 t (map listed (map bit_of (lines_from vs ws 0 f 0).bits)))
whole_is vs ws t f =
    formula_same (number vs f) item fresh ws t ∙ formula_from vs ws t f ∙
    ap (λ c. wiring f (lines_from vs ws 0 f 0).adders ++ plain c) (sym (closing_bits (get_or vs 0 0) 0 t (lines_from vs ws 0 f 0).bits))

-- how many are fresh
pub fresh_is : (ws : List ℕ) (t : ℕ) → adders.fresh_count ws t ≡ 2 * count_from ws 0 0
fresh_is ws t =
    let N = number [] 0 in
    let same : length (network (λ i. get_or [] i 0) (λ j. 0 + j) ws).adders ≡ length (network item fresh ws).adders =
    ap (λ w. length w.adders) (network_same N item fresh ws) ∙ length-map (network item fresh ws).adders (adder_over N) in
    ap (λ n. 2 * n) (sym same ∙ ap (λ w. length w.adders) (from_first [] ws 0) ∙ count_is [] ws 0 0 0)

taken : (n t : ℕ) → adders.takes n t ≡ true → n ≤ 96
taken n t h = grind (arith, nat_tests)

in_range : (n f : ℕ) → (eqb n 0 || leb (f + n) 65536) ≡ true → 1 ≤ n → f + n ≤ 65536
in_range n f h l = grind (arith, nat_tests)

pub fitting_from : (vs ws : List ℕ) (t f : ℕ) → ready_fault adders vs ws t f ≡ None → record { fitting : Fitting vs ws f; some : 1 ≤ length vs }
fitting_from vs ws t f e =
    let h = faultless adders vs ws t f e in
    let z = h.items 0 h.some in
    let n = fresh_is ws t in
    record {
      fitting = record {
        same = h.same;
        few = taken (length ws) t h.takes;
        low = omega (arith, z);
        items = λ i l. let b = h.items i l in (b.0, b.1);
        room = λ l. omega (arith, n, in_range (adders.fresh_count ws t) f h.fits (omega (arith, n)));
      };
      some = h.some;
    }
