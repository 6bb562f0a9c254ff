-- What kinds and sets of kinds answer.
use Rattle.std.specs.Prelude.{◌≡◌, ℕ, ◌-◌, Bool, cond, List, ℤ, Some, None, Ok, Err, Option, Result}
use Rattle.std.specs.Option.{option_or}
use Rattle.std.specs.Result.{result_err}
use Rattle.formulas.specs.Formula.{Formula}
use Rattle.formulas.specs.Numbered.{numbered}
use Rattle.places.specs.declared.fault.PlaceFault.{PlaceFault}
use Rattle.places.specs.declared.place.Place.{Ghosts}
use Rattle.places.specs.Written.{Writes, fitting}
use Rattle.totals.specs.Totaller.{Totaller}
use Rattle.totallers.specs.declared.fault.TotallerFault.TheVariants as totaller
use Rattle.boards.specs.declared.board.Board.{Board}
use Rattle.boards.specs.Atoms.{Atom, number}
use Rattle.parts.specs.declared.fault.KindFault.{KindFault}
use Rattle.parts.specs.declared.fault.KindFault.TheVariants as kind
use Rattle.parts.specs.Tests.{first_number_fault, grid_fault}
use Rattle.meanings.specs.Kind.{Kind}

-- a formula in clauses, where the fresh numbers begin at f
abbrev pub clauses_from : Board → ℕ → Formula Atom → List (List ℤ)
clauses_from b f formula = numbered (number b (f - 1)) formula

-- the clauses of a part
abbrev pub part_clauses : Kind → Totaller → Board → ℕ → List ℕ → ℕ → List (List ℤ)
part_clauses 𝓚 𝓣 b total body f = clauses_from b f (𝓚.formula 𝓣 b total body)

-- what is wrong before the first clause
abbrev pub write_fault : Kind → Totaller → Board → ℕ → List ℕ → ℕ → Option KindFault
write_fault 𝓚 𝓣 b total body f = option_or (𝓚.fault b total body) (option_or (first_number_fault b f) (𝓚.ready 𝓣 b total body f))

-- a fault of the place comes by way of the totaller where the clause was the totaller's
abbrev pub carried : Bool → PlaceFault → KindFault
carried summed d = cond summed (kind.Totaller (totaller.Place d)) (kind.Place d)

-- the part is written as far as its clauses fit, or nothing is
abbrev pub WrittenBy : Option KindFault → Kind → Totaller → {P : Type 0} → Ghosts P → Board → ℕ → List ℕ → ℕ → P → P → Result ℕ KindFault → Type 0
WrittenBy (Some e) 𝓚 𝓣 place b total body f p q r = (r ≡ Err e) × (q ≡ p)
WrittenBy None 𝓚 𝓣 place b total body f p q (Ok k) = (k ≡ 𝓚.fresh_count 𝓣 b total body) × Writes place (part_clauses 𝓚 𝓣 b total body f) p q None
WrittenBy None 𝓚 𝓣 place b total body f p q (Err e) =
    (d : PlaceFault) × (e ≡ carried (𝓚.summed 𝓣 b total body (fitting place.charge (place.free p) (part_clauses 𝓚 𝓣 b total body f))) d) ×
    Writes place (part_clauses 𝓚 𝓣 b total body f) p q (Some d)

abbrev pub Written : Kind → Totaller → {P : Type 0} → Ghosts P → Board → ℕ → List ℕ → ℕ → P → P → Result ℕ KindFault → Type 0
Written 𝓚 𝓣 place b total body f p q r = WrittenBy (write_fault 𝓚 𝓣 b total body f) 𝓚 𝓣 place b total body f p q r

-- what is wrong with a part or with a grid to be judged by it
abbrev pub judge_fault : Kind → Board → ℕ → List ℕ → List ℕ → Option KindFault
judge_fault 𝓚 b total body g = option_or (𝓚.fault b total body) (grid_fault b g)

abbrev pub Judged : Kind → Board → ℕ → List ℕ → List ℕ → Result Bool KindFault → Type 0
Judged 𝓚 b total body g (Ok k) = (judge_fault 𝓚 b total body g ≡ None) × (k ≡ 𝓚.keeps b total body g)
Judged 𝓚 b total body g (Err e) = judge_fault 𝓚 b total body g ≡ Some e

-- A set answers as the kind does that it finds, and nothing where it finds none.
abbrev pub SetTested : Option Kind → Board → ℕ → List ℕ → Option (Result Unit KindFault) → Type 0
SetTested None b total body r = r ≡ None
SetTested (Some 𝓚) b total body None = ⊥
SetTested (Some 𝓚) b total body (Some r) = result_err r ≡ 𝓚.fault b total body

abbrev pub SetWritten : Option Kind → Totaller → {P : Type 0} → Ghosts P → Board → ℕ → List ℕ → ℕ → P → P → Option (Result ℕ KindFault) → Type 0
SetWritten None 𝓣 place b total body f p q r = (r ≡ None) × (q ≡ p)
SetWritten (Some 𝓚) 𝓣 place b total body f p q None = ⊥
SetWritten (Some 𝓚) 𝓣 place b total body f p q (Some r) = Written 𝓚 𝓣 place b total body f p q r

abbrev pub SetJudged : Option Kind → Board → ℕ → List ℕ → List ℕ → Option (Result Bool KindFault) → Type 0
SetJudged None b total body g r = r ≡ None
SetJudged (Some 𝓚) b total body g None = ⊥
SetJudged (Some 𝓚) b total body g (Some r) = Judged 𝓚 b total body g r
