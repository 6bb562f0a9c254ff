-- Givens keep their law.
use Rattle.std.proofs.Common.{◌≡◌, ℕ, ◌+◌, ◌<◌, ◌≤◌, true, false, not, eqb, List, [], ◌∷◌, length, get_or, None, inl, inr, arith}
use Rattle.std.specs.List.{AllByRecursion as Each}
use Rattle.std.proofs.ByRecursion.{All-from_get_or}
use Rattle.std.proofs.lemmas.Bool.{cases_Bool}
use Rattle.std.proofs.lemmas.Bool.Decides.{nat_tests}
use Rattle.formulas.specs.Formula.{is}
use Rattle.totallers.proofs.Faultless.{both_none}
use Rattle.boards.specs.declared.board.Board.{Board}
use Rattle.boards.specs.Board.{cells}
use Rattle.boards.specs.Atoms.{at}
use Rattle.rules.specs.Grid.{Digit}
use Rattle.parts.specs.declared.fault.KindFault.TheVariants.{Character}
use Rattle.parts.specs.Tests.{index_fault, length_fault}
use Rattle.meanings.specs.Kind.{Lawful}
use Rattle.meanings.specs.Givens.{blank, digit_of, fitting, givens, shows, stated}
use Rattle.meanings.proofs.Faults.{length_between, none_bad}
use Rattle.meanings.proofs.Says.{Says, says_alone, says_both, says_nothing}

module _ (b : Board) where
  -- each character is a blank or a digit
  pub characters_fit : (body : List ℕ) → index_fault (λ i. not (fitting b (get_or body i 0))) Character body ≡ None → Each (λ ch. fitting b ch ≡ true) body
  characters_fit body h =
      All-from_get_or (λ ch. fitting b ch ≡ true) body 0 (λ i l.
      let n = none_bad (λ i. not (fitting b (get_or body i 0))) Character (length body) h i l in grind arith)

  pub digit_fits : (ch : ℕ) → fitting b ch ≡ true → blank ch ≡ false → Digit b (digit_of ch)
  digit_fits ch h n = (grind (arith, nat_tests), grind (arith, nat_tests))

  says_digit : (c d : ℕ) → c < cells b → Digit b d → Says b ((is (at c d) ∷ []) ∷ []) (λ g. eqb (get_or g c 0) d)
  says_digit c d l i = record {
    contained = omega arith;
    sized = omega arith;
    means = λ g G fs. (λ h. grind arith, λ h. grind arith);
  }

  says_stated : (c : ℕ) (chs : List ℕ) → c + length chs ≤ cells b → Each (λ ch. fitting b ch ≡ true) chs → Says b (stated c chs) (λ g. shows g c chs)
  says_stated c [] l h = says_nothing b
  says_stated c (ch ∷ chs) l h =
      let rest = says_stated (c + 1) chs (omega arith) h.1 in
      elim (cases_Bool (blank ch)) [
        | inl e ↦ rw e rest
        | inr e ↦ rw e
            (says_both b ((is (at c (digit_of ch)) ∷ []) ∷ []) (λ g. eqb (get_or g c 0) (digit_of ch)) (says_digit c (digit_of ch) (omega arith) (digit_fits ch h.0 e))
            (stated (c + 1) chs) (λ g. shows g (c + 1) chs) rest)
      ]

pub givens_lawful : Lawful givens
givens_lawful = record {
  sound = λ 𝓣 T b total body f right ready.
      let parts = both_none (length_fault (cells b) (cells b) body) _ right in
      let long = length_between (cells b) (cells b) body parts.0 in
      says_alone b (stated 0 body) (λ g. shows g 0 body) (says_stated b 0 body (omega arith) (characters_fit b body parts.1));
  fits = λ 𝓣 b total body f ready some. absurd (omega arith);
}
