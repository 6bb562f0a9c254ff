-- A pair of clones keeps its law.
use Rattle.std.specs.Prelude.{◌≡◌, ℕ, ◌<◌, true, List, None, nat_eq, slice_index}
use Rattle.std.proofs.Common.{arith}
use Rattle.std.specs.List.{range_with_len, AllByRecursion as Each}
use Rattle.std.proofs.ByRecursion.{All-get_or, All-map}
use Rattle.std.proofs.lemmas.Bool.Decides.{nat_tests}
use Rattle.formulas.specs.Formula.{Clause, SizedClause, some_true, under, variable}
use Rattle.totallers.proofs.Faultless.{both_none}
use Rattle.boards.specs.declared.board.Board.{Board}
use Rattle.boards.specs.Board.{cells, side}
use Rattle.boards.specs.Atoms.{Atom}
use Rattle.rules.specs.Grid.{Digit}
use Rattle.rules.specs.Rule.{given, Inside}
use Rattle.rules.proofs.Base.{digit_at}
use Rattle.formulas.proofs.All.{all_counting_in, all_counting_out, all_map_out}
use Rattle.parts.specs.Tests.{cell_fault, length_fault}
use Rattle.meanings.specs.Kind.{Lawful}
use Rattle.meanings.proofs.Faults.{cells_on, length_between}
use Rattle.meanings.proofs.Says.{Says, says_alone}
use Rattle.clone_pair.specs.Meaning.{clone_pair, first_cell, follows, same, second_cell}

-- the clauses of a pair, for any property of clauses
module _ (P : Clause Atom → Type 0) (b : Board) (p q : ℕ) where
  same_in : ((d : ℕ) → Digit b d → P (follows p q d)) → Each P (same b p q)
  same_in h = All-map P _ (range_with_len 1 (side b)) (all_counting_in _ 1 (side b) (λ d l u. h d (l, omega arith)))

  same_out : Each P (same b p q) → (d : ℕ) → Digit b d → P (follows p q d)
  same_out h d i = all_counting_out _ 1 (side b) (all_map_out P _ (range_with_len 1 (side b)) h) d i.0 (omega arith)

says_same : (b : Board) (p q : ℕ) → p < cells b → q < cells b → Says b (same b p q) (λ g. nat_eq (slice_index g p) (slice_index g q))
says_same b p q lp lq = record {
  contained = same_in (λ c. Each (λ l. Inside b 0 (variable l)) c) b p q (λ d i. omega arith);
  sized = same_in SizedClause b p q (λ d i. omega arith);
  means = λ g G fs.
      let Ok : Clause Atom → Type 0 = λ c. some_true (under (given g fs)) c ≡ true in (
        λ h. let k = same_out Ok b p q h (slice_index g p) (digit_at b g G p lp) in grind (arith, nat_tests),
        λ h. same_in Ok b p q (λ d i. grind (arith, nat_tests)),
      );
}

-- the cells of a part with which nothing is wrong
on_board : (b : Board) (total : ℕ) (body : List ℕ) → clone_pair.fault b total body ≡ None → (first_cell body < cells b) × (second_cell body < cells b)
on_board b total body right =
    let parts = both_none (length_fault 2 2 body) _ right in
    let long = length_between 2 2 body parts.0 in
    let on = cells_on b body (both_none (cell_fault b body) _ parts.1).0 in
    (All-get_or (λ c. c < cells b) body 0 0 (omega arith) on, All-get_or (λ c. c < cells b) body 1 0 (omega arith) on)

pub clone_pair_lawful : Lawful clone_pair
clone_pair_lawful = record {
  sound = λ 𝓣 T b total body f right ready.
      let on = on_board b total body right in
      says_alone b (same b (first_cell body) (second_cell body)) (λ g. nat_eq (slice_index g (first_cell body)) (slice_index g (second_cell body))) (says_same b (first_cell body) (second_cell body) on.0 on.1);
  fits = λ 𝓣 b total body f ready some. absurd (omega arith);
}
