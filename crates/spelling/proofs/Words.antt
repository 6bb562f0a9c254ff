-- Clauses in words: what is written reads back.
use Rattle.std.proofs.Common.{◌≡◌, true, not, List, [], map, ℤ, pos, sym, refl, ap, ◌∙◌, append-nil, arith}
use Rattle.std.proofs.lemmas.List.{length_push, map-id}
use Rattle.std.proofs.lemmas.Bool.{and_parts}
use Rattle.std.proofs.lemmas.Bool.Decides.{nat_tests}
use Rattle.formulas.specs.Clause.{every, usable, valid, right_length}
use Rattle.spelling.specs.Word.{spelled_words, is_zero, clauses_in_words, words}
use Rattle.formulas.proofs.Every.{every_weaker}
use Rattle.spelling.proofs.Pieces.{pieces_closed, length_pieces}
use Rattle.spelling.specs.Store.{Lawful}

usable_not_zero : (l : ℤ) → usable l ≡ true → not (is_zero l) ≡ true
usable_not_zero l h = grind (arith, nat_tests)

pub no_zeros : (c : List ℤ) → valid c ≡ true → every (λ w. not (is_zero w)) c ≡ true
no_zeros c h = every_weaker usable (λ w. not (is_zero w)) usable_not_zero c (and_parts (right_length c) (every usable c) h).1

-- what is written reads back
pub words_back : (cs : List (List ℤ)) → every valid cs ≡ true → clauses_in_words (spelled_words cs) ≡ cs
words_back cs h =
    ap clauses_in_words (sym (append-nil (spelled_words cs))) ∙
    pieces_closed is_zero (pos 0) refl (λ c. c) cs [] (every_weaker valid (λ c. every (λ w. not (is_zero w)) c) no_zeros cs h) ∙
    (append-nil (map (λ c. c) cs) ∙ map-id cs)

pub words_lawful : Lawful is_zero words
words_lawful = record {
  marks = refl;
  plain = no_zeros;
  charged = λ c. length_push c (pos 0);
  back = words_back;
  few = length_pieces is_zero;
}
