use Rattle.std.proofs.Common.{◌≡◌, ◌+◌, ◌-◌, ◌∷◌, [], ◌++◌, length, drop, set, sym, ap, ◌∙◌, append-nil, arith, rules, w32, SFits}
use Rattle.std.specs.Fmt.{signed_decimal}
use Rattle.std.proofs.lemmas.Grind.{drop-set_at}
use Rattle.std.proofs.lemmas.Int.{to_z-of_z}
use Rattle.std.proofs.lemmas.List.{drop_all, length-set}
use Rattle.spelling.specs.Text.{spaced, text_line}
use Rattle.spelling.proofs.Lines.{from_literal, left_before, length_line, line_end, spaced_fits, spaced_last}
use Rattle.text_place.proofs.text.line.write_line.Goals as goal

pub loop-literal-init : goal.loop-literal-init
loop-literal-init c =
    let clause = c.args.clause.now in
    let bytes = c.args.bytes.now in
    let n = length bytes - 2 in
    let whole : c.into_iter-literal-iterator.result.iter.rest.now ≡ clause = search rules in
    let size = c.requires ∙ length_line clause in
    let one = set bytes (n + 1) 10 in
    let here : n ≡ length (spaced clause) = omega arith in (
      tt,
      tt,
      record {
        before = rw whole (sym (ap (λ q. clause ++ q) (drop_all (length clause) clause (omega arith)) ∙ append-nil clause));
        left = rw whole here;
        behind =
            drop-set_at one n n 48 (omega arith) (omega (arith, length-set bytes (n + 1) 10)) ∙
            ap (λ q. 48 ∷ q) (drop-set_at bytes (n + 1) (n + 1) 10 (omega arith) (omega arith) ∙ ap (λ q. 10 ∷ q) (drop_all (n + 1 + 1) bytes (omega arith))) ∙
            sym (ap (λ k. drop k (text_line clause)) here ∙ line_end clause);
        size = length-set one n 48 ∙ length-set bytes (n + 1) 10 ∙ c.requires;
      },
    )

pub overflow_sub-end-in-loop-literal : goal.overflow_sub-end-in-loop-literal
overflow_sub-end-in-loop-literal c =
    let inv = c.loop-literal.invariant.2 in
    let r = c.next.new.self.iter.rest.now in
    let x = c.in-Some.literal.now in
    let split : c.loop-literal.literal-iterator.iter.rest.now ≡ r ++ x ∷ [] = search rules in
    let before = rw split at inv.before in
    omega (arith, inv.left, ap (λ q. length (spaced q)) split, spaced_last c.args.clause.now r x before)

pub loop-literal-preserved : goal.loop-literal-preserved
loop-literal-preserved c =
    let clause = c.args.clause.now in
    let inv = c.loop-literal.invariant.2 in
    let bs = c.loop-literal.bytes in
    let e = c.loop-literal.end in
    let r = c.next.new.self.iter.rest.now in
    let x = c.in-Some.literal.now in
    let split : c.loop-literal.literal-iterator.iter.rest.now ≡ r ++ x ∷ [] = search rules in
    let before = rw split at inv.before in
    let end : e ≡ length (spaced (r ++ x ∷ [])) = inv.left ∙ ap (λ q. length (spaced q)) split in
    let last = spaced_last clause r x before in
    let f : SFits w32 x = search rules in
    let starts = simp to_z-of_z at c.write_literal-end.ensures.start in
    let written = simp to_z-of_z at c.write_literal-end.ensures.written in
    let start : c.write_literal-end.result ≡ length (spaced r) = omega (arith, starts, end, last) in (
      tt,
      tt,
      record {
        before = left_before clause r x before;
        left = start;
        behind =
            written ∙
            ap (λ q. signed_decimal x ++ q) (drop-set_at bs (e - 1) (e - 1) 32 (omega arith) (omega (arith, inv.size, end, last, spaced_fits clause r x before)) ∙
            ap (λ q. 32 ∷ q) (ap (λ k. drop k bs) (omega (arith, end, last)) ∙ inv.behind ∙ ap (λ k. drop k (text_line clause)) end)) ∙
            sym (ap (λ k. drop k (text_line clause)) start ∙ from_literal clause r x before);
        size = omega (arith, c.write_literal-end.auto.bytes, length-set bs (e - 1) 32, inv.size);
      },
    )
