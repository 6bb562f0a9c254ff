-- What a kind of part means, and the law of one.
use Rattle.std.specs.Prelude.{◌≡◌, ℕ, ◌+◌, ◌≤◌, Bool, List, None, Option}
use Rattle.formulas.specs.Formula.{Formula}
use Rattle.totals.specs.Totaller as totaller
use Rattle.totals.specs.Totaller.{Totaller}
use Rattle.boards.specs.declared.board.Board.{Board}
use Rattle.boards.specs.Atoms.{Atom}
use Rattle.rules.specs.Rule.{Rule, Sound}
use Rattle.parts.specs.declared.fault.KindFault.{KindFault}

-- A part is a total and a body; a kind without a total ignores it.
pub record Kind : Type 0 where
  pub number : ℕ
  -- what is wrong with the part
  pub fault : Board → ℕ → List ℕ → Option KindFault
  -- whether a grid keeps the part
  pub keeps : Board → ℕ → List ℕ → List ℕ → Bool
  -- what is wrong before its first clause, where the fresh numbers begin at the last number
  pub ready : Totaller → Board → ℕ → List ℕ → ℕ → Option KindFault
  -- how many variables it adds
  pub fresh_count : Totaller → Board → ℕ → List ℕ → ℕ
  pub formula : Totaller → Board → ℕ → List ℕ → Formula Atom
  -- whether the clause of this number, from 0, is put by the totaller
  pub summed : Totaller → Board → ℕ → List ℕ → ℕ → Bool

-- the rule that a part makes
abbrev pub rule_of : Kind → Totaller → Board → ℕ → List ℕ → Rule
rule_of 𝓚 𝓣 b total body = record {
  keeps = 𝓚.keeps b total body;
  fresh_count = 𝓚.fresh_count 𝓣 b total body;
  formula = 𝓚.formula 𝓣 b total body;
}

-- For every totaller that keeps its own law, and each part with which nothing is wrong.
pub record Lawful (𝓚 : Kind) : Type 0 where
  pub sound : (𝓣 : Totaller) → totaller.Lawful 𝓣 → (b : Board) (total : ℕ) (body : List ℕ) (f : ℕ) →
      𝓚.fault b total body ≡ None → 𝓚.ready 𝓣 b total body f ≡ None → Sound b (rule_of 𝓚 𝓣 b total body)
  -- its fresh numbers lie within 65,535
  pub fits : (𝓣 : Totaller) (b : Board) (total : ℕ) (body : List ℕ) (f : ℕ) →
      𝓚.ready 𝓣 b total body f ≡ None → 1 ≤ 𝓚.fresh_count 𝓣 b total body → f + 𝓚.fresh_count 𝓣 b total body ≤ 65536
