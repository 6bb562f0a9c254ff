-- A grid with which nothing is wrong.
use Rattle.std.proofs.Common.{◌≡◌, ℕ, ◌<◌, true, false, not, eqb, List, length, get_or, None, arith}
use Rattle.std.specs.List.{AllByRecursion as Each}
use Rattle.std.proofs.ByRecursion.{All-from_get_or, All-weaker}
use Rattle.std.proofs.lemmas.Bool.{eqb-true}
use Rattle.std.proofs.lemmas.Bool.Decides.{nat_tests}
use Rattle.boards.specs.declared.board.Board.{Board}
use Rattle.boards.specs.Board.{cells}
use Rattle.rules.specs.Grid.{Digit, Grid}
use Rattle.parts.specs.declared.fault.KindFault.TheVariants.{GridDigit}
use Rattle.parts.specs.Tests.{digit, grid_fault, index_fault}
use Rattle.meanings.proofs.Faults.{none_bad}

grid_parts : (b : Board) (g : List ℕ) → grid_fault b g ≡ None → (eqb (length g) (cells b) ≡ true) × (index_fault (λ i. not (digit b (get_or g i 0))) GridDigit g ≡ None)
grid_parts b g h = (grind (arith, nat_tests), grind (arith, nat_tests))

digit_true : (b : Board) (d : ℕ) → not (digit b d) ≡ false → Digit b d
digit_true b d h = (grind (arith, nat_tests), grind (arith, nat_tests))

pub grid_good : (b : Board) (g : List ℕ) → grid_fault b g ≡ None → Grid b g
grid_good b g h =
    let parts = grid_parts b g h in
    record {
      size = eqb-true (length g) (cells b) parts.0;
      digits = All-from_get_or (Digit b) g 0 (λ i l. digit_true b (get_or g i 0) (none_bad (λ i. not (digit b (get_or g i 0))) GridDigit (length g) parts.1 i l));
    }

-- cells of the board are indices of the grid
pub cells_in : (b : Board) (g cs : List ℕ) → grid_fault b g ≡ None → Each (λ c. c < cells b) cs → Each (λ c. c < length g) cs
cells_in b g cs h on = let n = (grid_good b g h).size in All-weaker (λ c. c < cells b) (λ c. c < length g) (λ c l. omega arith) cs on
