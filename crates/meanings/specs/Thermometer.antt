-- A thermometer: from cell to cell, beginning at the bulb, the digits rise.
use Rattle.std.specs.Prelude.{ℕ, Bool, true, false, ◌&&◌, List, [], ◌∷◌, ◌++◌, map, None, nat_lt, slice_index}
use Rattle.std.specs.List.{range_with_len, flat_map}
use Rattle.std.specs.Option.{option_or}
use Rattle.formulas.specs.Formula.{Formula}
use Rattle.boards.specs.declared.board.Board.{Board}
use Rattle.boards.specs.Board.{side}
use Rattle.boards.specs.Atoms.{Atom, at}
use Rattle.boards.specs.Base.{not_both}
use Rattle.parts.specs.Tests.{apart_fault, cell_fault, length_fault, repeat_fault}
use Rattle.meanings.specs.Kind.{Kind}

abbrev pub rises : List ℕ → List ℕ → Bool
rises g [] = true
rises g (p ∷ []) = true
rises g (p ∷ q ∷ cs) = nat_lt (slice_index g p) (slice_index g q) && rises g (q ∷ cs)

-- no digit d at p with one at q that is at most d
abbrev pub below : Board → ℕ → ℕ → Formula Atom
below b p q = flat_map (λ d. map (λ e. not_both (at p d) (at q e)) (range_with_len 1 d)) (range_with_len 1 (side b))

abbrev pub rising : Board → List ℕ → Formula Atom
rising b [] = []
rising b (p ∷ []) = []
rising b (p ∷ q ∷ cs) = below b p q ++ rising b (q ∷ cs)

abbrev pub thermometer : Kind
thermometer = record {
  number = 3;
  fault = λ b total body. option_or (length_fault 2 (side b) body) (option_or (cell_fault b body) (option_or (repeat_fault body) (apart_fault b body)));
  keeps = λ b total body g. rises g body;
  ready = λ 𝓣 b total body f. None;
  fresh_count = λ 𝓣 b total body. 0;
  formula = λ 𝓣 b total body. rising b body;
  summed = λ 𝓣 b total body i. false;
}
