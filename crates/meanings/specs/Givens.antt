-- Givens: a line of characters, one for each cell, that are a digit or a blank.
use Rattle.std.specs.Prelude.{ℕ, ◌+◌, ◌-◌, Bool, true, false, cond, not, ◌&&◌, ◌||◌, List, [], ◌∷◌, None, ◌==◌, nat_le, slice_index}
use Rattle.std.specs.Option.{option_or}
use Rattle.formulas.specs.Formula.{Formula, is}
use Rattle.boards.specs.declared.board.Board.{Board}
use Rattle.boards.specs.Board.{cells, side}
use Rattle.boards.specs.Atoms.{Atom, at}
use Rattle.parts.specs.declared.fault.KindFault.TheVariants.{Character}
use Rattle.parts.specs.Tests.{index_fault, length_fault}
use Rattle.meanings.specs.Kind.{Kind}

-- a full stop or the character 0
abbrev pub blank : ℕ → Bool
blank ch = ch == 46 || ch == 48

-- a blank, or a character from 1 to the board's side
abbrev pub fitting : Board → ℕ → Bool
fitting b ch = blank ch || (nat_le 49 ch && nat_le ch (48 + side b))

-- the digit that a character stands for
abbrev pub digit_of : ℕ → ℕ
digit_of ch = ch - 48

-- the grid has the digits of the characters, where the first is that of cell c
abbrev pub shows : List ℕ → ℕ → List ℕ → Bool
shows g c [] = true
shows g c (ch ∷ chs) = (blank ch || slice_index g c == digit_of ch) && shows g (c + 1) chs

-- one clause for each digit
abbrev pub stated : ℕ → List ℕ → Formula Atom
stated c [] = []
stated c (ch ∷ chs) = cond (blank ch) (stated (c + 1) chs) ((is (at c (digit_of ch)) ∷ []) ∷ stated (c + 1) chs)

abbrev pub givens : Kind
givens = record {
  number = 1;
  fault = λ b total body. option_or (length_fault (cells b) (cells b) body) (index_fault (λ i. not (fitting b (slice_index body i))) Character body);
  keeps = λ b total body g. shows g 0 body;
  ready = λ 𝓣 b total body f. None;
  fresh_count = λ 𝓣 b total body. 0;
  formula = λ 𝓣 b total body. stated 0 body;
  summed = λ 𝓣 b total body i. false;
}
