use Rattle.std.proofs.Common.{◌≡◌, ◌-◌, ◌≤◌, ◌∷◌, length, take, drop, ap, ap₂, ◌∙◌, sym, arith, tests}
use Rattle.std.specs.List.{position_or_len}
use Rattle.std.proofs.lemmas.List.{length-drop, nil_from_length, take_all}
use Rattle.desk.specs.DraftText.{blank, words_of}
use Rattle.desk.proofs.Pieces.{no_word, word_first}
use Rattle.desk.proofs.words.next_word.Goals as goal

pub returns-then-is_empty : goal.returns-then-is_empty
returns-then-is_empty c =
    let bytes = c.args.bytes.now in
    let n = c.blanks_len.result in
    let rest : take (length bytes - n) (drop n bytes) ≡ drop n bytes = take_all (length bytes - n) (drop n bytes) (omega (arith, length-drop n bytes)) in
    let none : length (drop n bytes) ≡ 0 = grind (arith, ap length rest, c.is_empty.ensures, c.if-is_empty.true, tests) in
    no_word bytes n c.blanks_len.ensures.value (nil_from_length (drop n bytes) none)

pub returns : goal.returns
returns c =
    let bytes = c.args.bytes.now in
    let n = c.blanks_len.result in
    let rest : take (length bytes - n) (drop n bytes) ≡ drop n bytes = take_all (length bytes - n) (drop n bytes) (omega (arith, length-drop n bytes)) in
    let some : 1 ≤ length (drop n bytes) = grind (arith, ap length rest, c.is_empty.ensures, c.if-is_empty.false, tests) in
    word_first bytes n c.blanks_len.ensures.value c.word_len.result (c.word_len.ensures.value ∙ ap (position_or_len blank) rest) some ∙
    ap₂ (λ w r. w ∷ words_of r) (sym (c.split_at.ensures.front ∙ ap (take c.word_len.result) rest)) (sym (c.split_at.ensures.back ∙ ap (drop c.word_len.result) rest))
