-- A pair of clones: two cells that have the same digit.
use Rattle.std.specs.Prelude.{ℕ, false, List, [], ◌∷◌, map, None, ◌==◌, slice_index}
use Rattle.std.specs.List.{range_with_len}
use Rattle.std.specs.Option.{option_or}
use Rattle.formulas.specs.Formula.{Clause, Formula, is, isnt}
use Rattle.boards.specs.declared.board.Board.{Board}
use Rattle.boards.specs.Board.{side}
use Rattle.boards.specs.Atoms.{Atom, at}
use Rattle.parts.specs.Tests.{cell_fault, length_fault, repeat_fault}
use Rattle.meanings.specs.Kind.{Kind}

-- the first and the second cell of the body
abbrev pub first_cell : List ℕ → ℕ
first_cell body = slice_index body 0

abbrev pub second_cell : List ℕ → ℕ
second_cell body = slice_index body 1

-- where p has the digit, q has it too
abbrev pub follows : ℕ → ℕ → ℕ → Clause Atom
follows p q d = isnt (at p d) ∷ is (at q d) ∷ []

abbrev pub same : Board → ℕ → ℕ → Formula Atom
same b p q = map (follows p q) (range_with_len 1 (side b))

abbrev pub clone_pair : Kind
clone_pair = record {
  number = 9;
  fault = λ b total body. option_or (length_fault 2 2 body) (option_or (cell_fault b body) (repeat_fault body));
  keeps = λ b total body g. (slice_index g (first_cell body) == slice_index g (second_cell body));
  ready = λ 𝓣 b total body f. None;
  fresh_count = λ 𝓣 b total body. 0;
  formula = λ 𝓣 b total body. same b (first_cell body) (second_cell body);
  summed = λ 𝓣 b total body i. false;
}
