-- One more rule at the end.
use Rattle.std.proofs.Common.{◌≡◌, ℕ, ◌+◌, List, [], ◌∷◌, ◌++◌, sym, ap, ◌∙◌, add-zero, add_assoc, arith}
use Rattle.std.proofs.lemmas.List.{append_assoc, append-nil}
use Rattle.formulas.specs.Numbered.{numbered}
use Rattle.boards.specs.declared.board.Board.{Board}
use Rattle.boards.specs.Atoms.{cell_variables, number}
use Rattle.boards.specs.Base.{base, clauses_of}
use Rattle.rules.specs.Clauses.{clauses, fresh_total, rule_clauses, variables}
use Rattle.rules.specs.Rule.{Rule}

fresh_total_push : (rs : List Rule) (r : Rule) → fresh_total (rs ++ r ∷ []) ≡ fresh_total rs + r.fresh_count
fresh_total_push [] r = omega arith
fresh_total_push (s ∷ rs) r = omega (arith, fresh_total_push rs r)

rule_clauses_push : (b : Board) (before : ℕ) (rs : List Rule) (r : Rule) →
    rule_clauses b before (rs ++ r ∷ []) ≡ rule_clauses b before rs ++ numbered (number b (before + fresh_total rs)) r.formula
rule_clauses_push b before [] r = append-nil _ ∙ ap (λ n. numbered (number b n) r.formula) (sym (add-zero before))
rule_clauses_push b before (s ∷ rs) r =
    ap (λ l. numbered (number b before) s.formula ++ l)
    (rule_clauses_push b (before + s.fresh_count) rs r ∙
    ap (λ n. rule_clauses b (before + s.fresh_count) rs ++ numbered (number b n) r.formula) (add_assoc before s.fresh_count (fresh_total rs))) ∙
    sym (append_assoc (numbered (number b before) s.formula) _ _)

pub variables_push : (b : Board) (rs : List Rule) (r : Rule) → variables b (rs ++ r ∷ []) ≡ variables b rs + r.fresh_count
variables_push b rs r = omega (arith, fresh_total_push rs r)

pub clauses_push : (b : Board) (rs : List Rule) (r : Rule) →
    clauses b (rs ++ r ∷ []) ≡ clauses b rs ++ numbered (number b (variables b rs)) r.formula
clauses_push b rs r =
    ap (λ l. clauses_of b (base b) ++ l) (rule_clauses_push b (cell_variables b) rs r) ∙
    sym (append_assoc (clauses_of b (base b)) _ _)
