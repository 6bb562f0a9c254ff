-- A cage: the digits of its cells differ, and add to its total.
use Rattle.std.specs.Prelude.{ℕ, ◌+◌, ◌*◌, ◌/◌, Bool, true, cond, not, ◌&&◌, List, [], ◌∷◌, ◌++◌, length, Some, None, Option, ◌==◌, nat_le, slice_index}
use Rattle.std.specs.Option.{option_or}
use Rattle.formulas.specs.Clause.{every}
use Rattle.boards.specs.declared.board.Board.{Board}
use Rattle.boards.specs.Board.{side}
use Rattle.boards.specs.Base.{no_repeat}
use Rattle.parts.specs.declared.fault.KindFault.{KindFault}
use Rattle.parts.specs.declared.fault.KindFault.TheVariants.{Total}
use Rattle.parts.specs.Tests.{cell_fault, length_fault, repeat_fault}
use Rattle.meanings.specs.Kind.{Kind}
use Rattle.meanings.specs.Sum.{adding_fault, cell_items, cell_weights, digit_sum, sum_formula}

-- all digits of the board, added
abbrev pub most_total : Board → ℕ
most_total b = side b * (side b + 1) / 2

abbrev pub total_fault : Board → ℕ → Option KindFault
total_fault b total = cond (nat_le 1 total && nat_le total (most_total b)) None (Some Total)

-- no two of the cells have the same digit
abbrev pub differ : List ℕ → List ℕ → Bool
differ g [] = true
differ g (c ∷ cs) = every (λ q. not (slice_index g c == slice_index g q)) cs && differ g cs

abbrev pub cage : Kind
cage = record {
  number = 2;
  fault = λ b total body. option_or (length_fault 1 (side b) body) (option_or (cell_fault b body) (option_or (repeat_fault body) (total_fault b total)));
  keeps = λ b total body g. differ g body && (digit_sum g body == total);
  ready = λ 𝓣 b total body f. adding_fault 𝓣 b (cell_weights b body) total f;
  fresh_count = λ 𝓣 b total body. 𝓣.fresh_count (cell_weights b body) total;
  formula = λ 𝓣 b total body. no_repeat b body ++ sum_formula 𝓣 (cell_items b body) (cell_weights b body) total;
  summed = λ 𝓣 b total body i. nat_le (length (no_repeat b body)) i;
}
