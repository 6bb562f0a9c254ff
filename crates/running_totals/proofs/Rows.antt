-- The table of running totals: its clauses, and that it has room where nothing is wrong with what is handed in.
use Rattle.std.proofs.Common.{◌≡◌, ℕ, ◌+◌, ◌*◌, ◌≤◌, true, ◌||◌, eqb, leb, List, [], ◌∷◌, ◌++◌, map, length, pos, None, ap, ◌∙◌, mul-le-mul, arith}
use Rattle.std.specs.List.{flat_map, range_with_len}
use Rattle.std.proofs.lemmas.List.{map-append}
use Rattle.std.proofs.lemmas.Bool.Decides.{nat_tests}
use Rattle.formulas.specs.Formula.{is, isnt}
use Rattle.formulas.specs.Numbered.{numbered, signed}
use Rattle.formulas.proofs.Numbered.{numbered_joined}
use Rattle.places.proofs.Loops.{all_up_to, up_to}
use Rattle.totals.specs.Items.{Item}
use Rattle.totals.specs.Running.{at, first_row, no_other_sum, rows, running}
use Rattle.totallers.specs.Writing.{number, ready_fault, sum_clauses}
use Rattle.totallers.proofs.Faultless.{faultless}
use Rattle.totallers.specs.declared.sum.Sum.{Sum}
use Rattle.running_totals.specs.Room.{Room}

-- the first row by its turns
pub no_other_is : (N : Item → ℕ) (t : ℕ) → numbered N (no_other_sum t) ≡ flat_map (λ u. numbered N ((isnt (at t 0 u) ∷ []) ∷ [])) (up_to t 1)
no_other_is N t =
    numbered_joined N (λ u. (isnt (at t 0 u) ∷ []) ∷ []) (range_with_len 1 t) ∙
    ap (flat_map (λ u. numbered N ((isnt (at t 0 u) ∷ []) ∷ []))) (all_up_to t)

pub table_is : (vs ws : List ℕ) (t f : ℕ) →
    sum_clauses running vs ws t f ≡ (numbered (number vs f) (first_row t) ++ numbered (number vs f) (rows ws t)) ++ ((pos (f + (length ws * (t + 1) + t)) ∷ []) ∷ [])
table_is vs ws t f =
    let N = number vs f in
    map-append (map (signed N)) (first_row t ++ rows ws t) ((is (at t (length ws) t) ∷ []) ∷ []) ∙
    ap (λ l. l ++ ((pos (f + (length ws * (t + 1) + t)) ∷ []) ∷ [])) (map-append (map (signed N)) (first_row t) (rows ws t))

taken : (n t : ℕ) → running.takes n t ≡ true → (n ≤ 96) × (t ≤ 63)
taken n t h = (grind (arith, nat_tests), grind (arith, nat_tests))

in_range : (n f : ℕ) → 1 ≤ n → (eqb n 0 || leb (f + n) 65536) ≡ true → f + n ≤ 65536
in_range n f l h = grind (arith, nat_tests)

pub room_from : (s : Sum) → ready_fault running s.variables.now s.weights.now s.target s.first ≡ None → Room s
room_from s e =
    let vs = s.variables.now in
    let ws = s.weights.now in
    let t = s.target in
    let f = s.first in
    let h = faultless running vs ws t f e in
    let n : length vs ≡ length ws = h.same in
    let limits = taken (length ws) t h.takes in
    let a : 1 ≤ length ws + 1 = omega arith in
    let b : 1 ≤ t + 1 = omega arith in
    let some : 1 * 1 ≤ (length ws + 1) * (t + 1) = mul-le-mul a b in
    let last = in_range ((length ws + 1) * (t + 1)) f (omega arith) h.fits in
    let z = h.items 0 h.some in
    record {
      same = n;
      few = omega (arith, limits.0);
      target = limits.1;
      first = omega arith;
      last = omega (arith, last, ap (λ k. (k + 1) * (t + 1)) n);
      items = λ i l. let b = h.items i l in (b.0, b.1);
    }
