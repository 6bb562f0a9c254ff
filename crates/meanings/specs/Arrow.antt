-- An arrow: the digits of its shaft add to the digit in its circle.
use Rattle.std.specs.Prelude.{ℕ, ◌+◌, ◌-◌, true, List, ◌++◌, map, drop, ◌==◌, slice_index}
use Rattle.std.specs.List.{range_with_len}
use Rattle.std.specs.Option.{option_or}
use Rattle.boards.specs.declared.board.Board.{Board}
use Rattle.boards.specs.Board.{side}
use Rattle.boards.specs.Atoms.{Atom, at}
use Rattle.parts.specs.Tests.{apart_fault, cell_fault, length_fault, repeat_fault}
use Rattle.meanings.specs.Kind.{Kind}
use Rattle.meanings.specs.Sum.{adding_fault, cell_items, cell_weights, digit_sum, sum_formula}

-- the first cell is the circle, and the others are the shaft
abbrev pub circle : List ℕ → ℕ
circle body = slice_index body 0

abbrev pub shaft : List ℕ → List ℕ
shaft body = drop 1 body

-- the items of the shaft, and then the circle's digits but the greatest
abbrev pub arrow_items : Board → List ℕ → List Atom
arrow_items b body = cell_items b (shaft body) ++ map (at (circle body)) (range_with_len 1 (side b - 1))

-- a digit in the circle weighs what it lacks to the greatest, so that all add to the greatest
abbrev pub arrow_weights : Board → List ℕ → List ℕ
arrow_weights b body = cell_weights b (shaft body) ++ map (λ d. side b - d) (range_with_len 1 (side b - 1))

abbrev pub arrow : Kind
arrow = record {
  number = 4;
  fault = λ b total body. option_or (length_fault 2 (side b + 1) body) (option_or (cell_fault b body) (option_or (repeat_fault body) (apart_fault b body)));
  keeps = λ b total body g. (digit_sum g (shaft body) == slice_index g (circle body));
  ready = λ 𝓣 b total body f. adding_fault 𝓣 b (arrow_weights b body) (side b) f;
  fresh_count = λ 𝓣 b total body. 𝓣.fresh_count (arrow_weights b body) (side b);
  formula = λ 𝓣 b total body. sum_formula 𝓣 (arrow_items b body) (arrow_weights b body) (side b);
  summed = λ 𝓣 b total body i. true;
}
