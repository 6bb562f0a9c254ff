-- A part that writes clauses of its own, without a fresh variable, and then a sum.
use Rattle.std.proofs.Common.{◌≡◌, ℕ, ◌+◌, ◌-◌, ◌<◌, ◌≤◌, List, [], ◌∷◌, ◌++◌, map, length, None, sym, refl, ap, ◌∙◌, ap₂, arith}
use Rattle.std.specs.List.{range_with_len, flat_map, AllByRecursion as Each}
use Rattle.std.specs.Option.{option_or}
use Rattle.std.proofs.lemmas.Bool.Decides.{nat_tests}
use Rattle.formulas.specs.Numbered.{numbered}
use Rattle.formulas.proofs.Numbered.{numbered_joined}
use Rattle.totals.specs.Totaller.{Totaller}
use Rattle.totallers.specs.Writing.{items_fault, ready_fault, sum_clauses, taking_fault}
use Rattle.boards.specs.declared.board.Board.{Board}
use Rattle.boards.specs.Board.{pairs, side}
use Rattle.boards.specs.Atoms.{Atom, at, cell_variables, fresh, number}
use Rattle.boards.specs.Base.{clauses_of, no_repeat, not_both, not_same}
use Rattle.rules.specs.Rule.{Inside}
use Rattle.parts.specs.Tests.{first_number_fault}
use Rattle.meanings.specs.Sum.{adding_fault, by_totaller, large_fault, sum_formula}
use Rattle.meanings.proofs.Numbers.{sum_numbered}
use Rattle.kinds.specs.Answers.{clauses_from}

-- cells have the same numbers wherever the fresh numbers begin
cell_same : (b : Board) (x y : ℕ) (a : Atom) → Inside b 0 a → number b x a ≡ number b y a
cell_same b x y (at c d) i = refl
cell_same b x y (fresh j) i = absurd (omega arith)

pub cells_same : (b : Board) (x y : ℕ) (atoms : List Atom) → Each (Inside b 0) atoms → map (number b x) atoms ≡ map (number b y) atoms
cells_same b x y [] i = refl
cells_same b x y (a ∷ atoms) i = ap₂ ◌∷◌ (cell_same b x y a i.0) (cells_same b x y atoms i.1)

not_same_as : (b : Board) (x y : ℕ) (p : ℕ × ℕ) (ds : List ℕ) →
    numbered (number b x) (map (λ d. not_both (at p.0 d) (at p.1 d)) ds) ≡ numbered (number b y) (map (λ d. not_both (at p.0 d) (at p.1 d)) ds)
not_same_as b x y p [] = refl
not_same_as b x y p (d ∷ ds) = ap (λ l. numbered (number b y) (not_both (at p.0 d) (at p.1 d) ∷ []) ++ l) (not_same_as b x y p ds)

joined_as : (b : Board) (x y : ℕ) (ps : List (ℕ × ℕ)) → flat_map (λ p. numbered (number b x) (not_same b p)) ps ≡ flat_map (λ p. numbered (number b y) (not_same b p)) ps
joined_as b x y [] = refl
joined_as b x y (p ∷ ps) = ap₂ ◌++◌ (not_same_as b x y p (range_with_len 1 (side b))) (joined_as b x y ps)

pub no_repeat_as : (b : Board) (f : ℕ) (cs : List ℕ) → clauses_of b (no_repeat b cs) ≡ clauses_from b f (no_repeat b cs)
no_repeat_as b f cs =
    numbered_joined (number b (cell_variables b)) (not_same b) (pairs cs) ∙ joined_as b (cell_variables b) (f - 1) (pairs cs) ∙
    sym (numbered_joined (number b (f - 1)) (not_same b) (pairs cs))

pub behind_cells : (b : Board) (f : ℕ) → first_number_fault b f ≡ None → cell_variables b < f
behind_cells b f h = grind (arith, nat_tests)

module _ (𝓣 : Totaller) (b : Board) (atoms : List Atom) (ws : List ℕ) (t f : ℕ) (inside : Each (Inside b 0) atoms) (behind : cell_variables b < f) where
  -- the totaller's clauses
  pub sum_is : clauses_from b f (sum_formula 𝓣 atoms ws t) ≡ sum_clauses 𝓣 (map (number b 0) atoms) ws t f
  sum_is =
      let e : f - 1 + 1 ≡ f = omega arith in
      sum_numbered b (f - 1) atoms 𝓣 ws t ∙ ap₂ (λ vs k. sum_clauses 𝓣 vs ws t k) (cells_same b (f - 1) 0 atoms inside) e

  -- what it finds wrong, where the weights may be too large
  pub ready_is : items_fault (map (number b 0) atoms) ws f ≡ large_fault b → by_totaller (ready_fault 𝓣 (map (number b 0) atoms) ws t f) ≡ adding_fault 𝓣 b ws t f
  ready_is large = ap (λ o. by_totaller (option_or o (taking_fault 𝓣 ws t f))) large

-- the first cell of some
pub first_of : (cs : List ℕ) → 1 ≤ length cs → (c : ℕ) × (rest : List ℕ) × (cs ≡ c ∷ rest)
first_of [] l = absurd (omega arith)
first_of (c ∷ cs) l = (c, cs, refl)
