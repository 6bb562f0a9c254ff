-- A thermometer keeps its law.
use Rattle.std.proofs.Common.{◌≡◌, ℕ, ◌<◌, ◌≤◌, true, ltb, List, [], ◌∷◌, get_or, arith}
use Rattle.std.specs.List.{range_with_len, AllByRecursion as Each}
use Rattle.std.proofs.ByRecursion.{All-map}
use Rattle.std.proofs.lemmas.Bool.{lt-ltb, ltb-true}
use Rattle.std.proofs.lemmas.Bool.Decides.{nat_tests}
use Rattle.formulas.specs.Formula.{Clause, some_true, under, variable, SizedClause}
use Rattle.formulas.proofs.All.{all_counting_in, all_counting_out, all_joined_in, all_joined_out, all_map_out}
use Rattle.totallers.proofs.Faultless.{both_none}
use Rattle.boards.specs.declared.board.Board.{Board}
use Rattle.boards.specs.Board.{cells, side}
use Rattle.boards.specs.Atoms.{Atom, at}
use Rattle.boards.specs.Base.{not_both}
use Rattle.rules.specs.Grid.{Digit}
use Rattle.rules.specs.Rule.{given, Inside}
use Rattle.rules.proofs.Base.{digit_at}
use Rattle.parts.specs.Tests.{cell_fault, length_fault}
use Rattle.meanings.specs.Kind.{Lawful}
use Rattle.meanings.specs.Thermometer.{below, rises, rising, thermometer}
use Rattle.meanings.proofs.Faults.{cells_on}
use Rattle.meanings.proofs.Says.{Says, says_alone, says_both, says_nothing}

-- the clauses of one step, for any property of clauses
module _ (P : Clause Atom → Type 0) (b : Board) (p q : ℕ) where
  below_in : ((d e : ℕ) → Digit b d → 1 ≤ e → e ≤ d → P (not_both (at p d) (at q e))) → Each P (below b p q)
  below_in h =
      all_joined_in P _ (range_with_len 1 (side b)) (all_counting_in _ 1 (side b) (λ d ld ud.
      All-map P _ (range_with_len 1 d) (all_counting_in _ 1 d (λ e le ue. h d e (ld, omega arith) le (omega arith)))))

  below_out : Each P (below b p q) → (d e : ℕ) → Digit b d → 1 ≤ e → e ≤ d → P (not_both (at p d) (at q e))
  below_out h d e i l u =
      all_counting_out _ 1 d (all_map_out P _ (range_with_len 1 d)
      (all_counting_out _ 1 (side b) (all_joined_out P _ (range_with_len 1 (side b)) h) d i.0 (omega arith))) e l (omega arith)

module _ (b : Board) where
  says_below : (p q : ℕ) → p < cells b → q < cells b → Says b (below b p q) (λ g. ltb (get_or g p 0) (get_or g q 0))
  says_below p q lp lq = record {
    contained = below_in (λ c. Each (λ l. Inside b 0 (variable l)) c) b p q (λ d e i l u. omega arith);
    sized = below_in SizedClause b p q (λ d e i l u. omega arith);
    means = λ g G fs.
        let Ok : Clause Atom → Type 0 = λ c. some_true (under (given g fs)) c ≡ true in (
          λ h.
              let i = digit_at b g G p lp in
              let j = digit_at b g G q lq in
              let less : get_or g q 0 ≤ get_or g p 0 → ⊥ = λ l.
              let k = below_out Ok b p q h (get_or g p 0) (get_or g q 0) i j.0 l in grind (arith, nat_tests) in
              lt-ltb (get_or g p 0) (get_or g q 0) (omega arith),
          λ h. let less = ltb-true (get_or g p 0) (get_or g q 0) h in below_in Ok b p q (λ d e i l u. grind (arith, nat_tests)),
        );
  }

  says_rising : (cs : List ℕ) → Each (λ c. c < cells b) cs → Says b (rising b cs) (λ g. rises g cs)
  says_rising [] on = says_nothing b
  says_rising (p ∷ []) on = says_nothing b
  says_rising (p ∷ q ∷ cs) on =
      says_both b (below b p q) (λ g. ltb (get_or g p 0) (get_or g q 0)) (says_below p q on.0 on.1.0)
      (rising b (q ∷ cs)) (λ g. rises g (q ∷ cs)) (says_rising (q ∷ cs) on.1)

pub thermometer_lawful : Lawful thermometer
thermometer_lawful = record {
  sound = λ 𝓣 T b total body f right ready.
      let later = (both_none (length_fault 2 (side b) body) _ right).1 in
      let on = cells_on b body (both_none (cell_fault b body) _ later).0 in
      says_alone b (rising b body) (λ g. rises g body) (says_rising b body on);
  fits = λ 𝓣 b total body f ready some. absurd (omega arith);
}
