-- Each clause has 1 to 16 literals, and each literal is a variable that is counted, or its negation.
use Rattle.std.proofs.Common.{◌≡◌, ℕ, zero, suc, ◌+◌, ◌*◌, ◌<◌, ◌≤◌, true, leb, List, [], ◌∷◌, map, length, ℤ, pos, neg_ℤ, nat_abs, refl, arith}
use Rattle.std.specs.List.{AllByRecursion as Each}
use Rattle.std.proofs.ByRecursion.{All-append, All-map, All-weaker}
use Rattle.std.proofs.lemmas.Nat.{mul-add-lt}
use Rattle.std.proofs.lemmas.List.{length-map}
use Rattle.std.proofs.lemmas.Bool.{and_from, le-leb}
use Rattle.formulas.specs.Clause.{right_length}
use Rattle.formulas.specs.Formula.{Literal, is, isnt, Clause, Formula, SpeaksOf, variable, SizedClause}
use Rattle.formulas.specs.Numbered.{numbered, signed}
use Rattle.boards.specs.declared.board.Board.{Board}
use Rattle.boards.specs.Board.{cells, side}
use Rattle.boards.specs.Atoms.{Atom, at, cell_variables, fresh, number}
use Rattle.boards.specs.Base.{base, clauses_of}
use Rattle.rules.specs.Clauses.{clauses, fresh_total, rule_clauses, variables}
use Rattle.rules.specs.Rule.{Inside, Rule, Sound}
use Rattle.rules.proofs.Base.{base_contained, base_sized}

numbered_sized : (b : Board) (before : ℕ) (f : Formula Atom) → Each SizedClause f → Each (λ c. right_length c ≡ true) (numbered (number b before) f)
numbered_sized b before f s = All-map (λ c. right_length c ≡ true) (map (signed (number b before))) f (All-weaker _ _ right f s)
  where
    right : (c : Clause Atom) → SizedClause c → right_length (map (signed (number b before)) c) ≡ true
    right c s =
        let d = map (signed (number b before)) c in
        let e = length-map c (signed (number b before)) in
        and_from (leb 1 (length d)) (leb (length d) 16) (le-leb 1 (length d) (omega arith)) (le-leb (length d) 16 (omega arith))

rules_sized : (b : Board) (before : ℕ) (rs : List Rule) → Each (Sound b) rs → Each (λ c. right_length c ≡ true) (rule_clauses b before rs)
rules_sized b before [] S = tt
rules_sized b before (r ∷ rs) S =
    All-append _ (numbered (number b before) r.formula) _
    (numbered_sized b before r.formula S.0.sized) (rules_sized b (before + r.fresh_count) rs S.1)

pub clauses_sized : (b : Board) (rs : List Rule) → Each (Sound b) rs → Each (λ c. right_length c ≡ true) (clauses b rs)
clauses_sized b rs S =
    All-append _ (clauses_of b (base b)) _
    (numbered_sized b (cell_variables b) (base b) (base_sized b)) (rules_sized b (cell_variables b) rs S)

same_size : (v : ℕ) → nat_abs (neg_ℤ (pos v)) ≡ v
same_size zero = refl
same_size (suc v) = refl

abbrev Upto : ℕ → ℤ → Type 0
Upto n l = (1 ≤ nat_abs l) × (nat_abs l ≤ n)

module _ (b : Board) (n : ℕ) where
  module _ (before m : ℕ) (l : cell_variables b ≤ before) (u : before + m ≤ n) where
    pub number_upto : (a : Atom) → Inside b m a → (1 ≤ number b before a) × (number b before a ≤ n)
    number_upto (at c d) i =
        let e : c * side b + d ≤ cell_variables b = cell_upto c d i.0 i.1.0 i.1.1 in omega arith
      where
        cell_upto : (c d : ℕ) → c < cells b → 1 ≤ d → d ≤ side b → c * side b + d ≤ cell_variables b
        cell_upto c zero l low high = absurd (omega arith)
        cell_upto c (suc d) l low high = omega (arith, mul-add-lt c (side b) d (cells b) l high)
    number_upto (fresh j) i = omega arith

    signed_upto : (l : Literal Atom) → Inside b m (variable l) → Upto n (signed (number b before) l)
    signed_upto (is a) i = number_upto a i
    signed_upto (isnt a) i = rw same_size (number_upto a i)

    numbered_upto : (f : Formula Atom) → SpeaksOf (Inside b m) f → Each (Each (Upto n)) (numbered (number b before) f)
    numbered_upto f s =
        All-map (Each (Upto n)) (map (signed (number b before))) f
        (All-weaker _ _ (λ c i. All-map (Upto n) (signed (number b before)) c (All-weaker _ _ signed_upto c i)) f s)

  rules_upto : (before : ℕ) (rs : List Rule) → Each (Sound b) rs → cell_variables b ≤ before → before + fresh_total rs ≤ n →
      Each (Each (Upto n)) (rule_clauses b before rs)
  rules_upto before [] S l u = tt
  rules_upto before (r ∷ rs) S l u =
      All-append _ (numbered (number b before) r.formula) _
      (numbered_upto before r.fresh_count l (omega arith) r.formula S.0.contained)
      (rules_upto (before + r.fresh_count) rs S.1 (omega arith) (omega arith))

pub clauses_upto : (b : Board) (rs : List Rule) → Each (Sound b) rs → Each (Each (Upto (variables b rs))) (clauses b rs)
clauses_upto b rs S =
    All-append _ (clauses_of b (base b)) _
    (numbered_upto b (variables b rs) (cell_variables b) 0 (omega arith) (omega arith) (base b) (base_contained b 0))
    (rules_upto b (variables b rs) (cell_variables b) rs S (omega arith) (omega arith))
