-- A cage keeps its law.
use Rattle.std.proofs.Common.{◌≡◌, ℕ, ◌<◌, true, not, eqb, List, [], ◌∷◌, map, get_or, sym, ◌∙◌, arith}
use Rattle.std.specs.List.{range_with_len, flat_map, AllByRecursion as Each}
use Rattle.std.proofs.ByRecursion.{All-map}
use Rattle.std.proofs.lemmas.Bool.{eq-eqb, eqb-true}
use Rattle.std.proofs.lemmas.Bool.Decides.{nat_tests}
use Rattle.formulas.specs.Clause.{every}
use Rattle.formulas.specs.Formula.{Clause, some_true, under, variable, SizedClause}
use Rattle.formulas.proofs.Lists.{joined_append}
use Rattle.formulas.proofs.All.{all_counting_in, all_counting_out, all_map_out}
use Rattle.totallers.proofs.Faultless.{both_none}
use Rattle.boards.specs.declared.board.Board.{Board}
use Rattle.boards.specs.Board.{cells, pairs, side}
use Rattle.boards.specs.Atoms.{Atom, at}
use Rattle.boards.specs.Base.{no_repeat, not_both, not_same}
use Rattle.rules.specs.Grid.{Digit}
use Rattle.rules.specs.Rule.{given, Inside}
use Rattle.rules.proofs.Base.{digit_at}
use Rattle.parts.specs.Tests.{cell_fault, length_fault}
use Rattle.meanings.specs.Kind.{Lawful}
use Rattle.meanings.specs.Sum.{cell_items, cell_weights, digit_sum}
use Rattle.meanings.specs.Cage.{cage, differ}
use Rattle.meanings.proofs.Faults.{cells_on}
use Rattle.meanings.proofs.Says.{Says, says_both, says_nothing, says_with}
use Rattle.meanings.proofs.Sums.{digits_fit, fresh_fit, items_inside, items_length, sum_sound, taken, total_digits, weights_length, weights_small}

-- the clauses of two cells, for any property of clauses
module _ (P : Clause Atom → Type 0) (b : Board) (p q : ℕ) where
  not_same_in : ((d : ℕ) → Digit b d → P (not_both (at p d) (at q d))) → Each P (not_same b (p, q))
  not_same_in h = All-map P _ (range_with_len 1 (side b)) (all_counting_in _ 1 (side b) (λ d low high. h d (low, omega arith)))

  not_same_out : Each P (not_same b (p, q)) → (d : ℕ) → Digit b d → P (not_both (at p d) (at q d))
  not_same_out h d i = all_counting_out _ 1 (side b) (all_map_out P _ (range_with_len 1 (side b)) h) d i.0 (omega arith)

module _ (b : Board) where
  says_not_same : (p q : ℕ) → p < cells b → q < cells b → Says b (not_same b (p, q)) (λ g. not (eqb (get_or g p 0) (get_or g q 0)))
  says_not_same p q lp lq = record {
    contained = not_same_in (λ c. Each (λ l. Inside b 0 (variable l)) c) b p q (λ d i. omega arith);
    sized = not_same_in SizedClause b p q (λ d i. omega arith);
    means = λ g G fs.
        let Ok : Clause Atom → Type 0 = λ c. some_true (under (given g fs)) c ≡ true in (
          λ h. let k = not_same_out Ok b p q h (get_or g p 0) (digit_at b g G p lp) in grind (arith, nat_tests),
          λ h. not_same_in Ok b p q (λ d i. grind (arith, nat_tests)),
        );
  }

  -- the cell c differs from each of the others
  says_differs : (c : ℕ) → c < cells b → (qs : List ℕ) → Each (λ q. q < cells b) qs →
      Says b (flat_map (not_same b) (map (λ q. (c, q)) qs)) (λ g. every (λ q. not (eqb (get_or g c 0) (get_or g q 0))) qs)
  says_differs c l [] on = says_nothing b
  says_differs c l (q ∷ qs) on =
      says_both b (not_same b (c, q)) (λ g. not (eqb (get_or g c 0) (get_or g q 0))) (says_not_same c q l on.0)
      (flat_map (not_same b) (map (λ q. (c, q)) qs)) (λ g. every (λ q. not (eqb (get_or g c 0) (get_or g q 0))) qs) (says_differs c l qs on.1)

  says_no_repeat : (cs : List ℕ) → Each (λ c. c < cells b) cs → Says b (no_repeat b cs) (λ g. differ g cs)
  says_no_repeat [] on = says_nothing b
  says_no_repeat (c ∷ cs) on =
      let e = joined_append (not_same b) (map (λ q. (c, q)) cs) (pairs cs) in
      rw e (says_both b (flat_map (not_same b) (map (λ q. (c, q)) cs)) (λ g. every (λ q. not (eqb (get_or g c 0) (get_or g q 0))) cs) (says_differs c on.0 cs on.1)
      (no_repeat b cs) (λ g. differ g cs) (says_no_repeat cs on.1))

pub cage_lawful : Lawful cage
cage_lawful = record {
  sound = λ 𝓣 T b t body f right ready.
      let later = (both_none (length_fault 1 (side b) body) _ right).1 in
      let on = cells_on b body (both_none (cell_fault b body) _ later).0 in
      let ws = cell_weights b body in
      says_with b (no_repeat b body) (λ g. differ g body) (says_no_repeat b body on) _
      (sum_sound 𝓣 b (cell_items b body) ws t (λ g. eqb (digit_sum g body) t)
      (items_inside b body on) (items_length b body ∙ sym (weights_length b body))
      (T.sound ws t (weights_small b (digits_fit 𝓣 b ws t f ready) body) (taken 𝓣 b ws t f ready))
      (λ g G. let e = total_digits b g G body on in (λ h. eq-eqb (digit_sum g body) t (sym e ∙ h), λ h. e ∙ eqb-true (digit_sum g body) t h)));
  fits = λ 𝓣 b t body f ready some. fresh_fit 𝓣 b (cell_weights b body) t f ready some;
}
