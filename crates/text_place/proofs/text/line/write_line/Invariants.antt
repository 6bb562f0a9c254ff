use Rattle.std.proofs.Common.{◌≡◌, ◌++◌, length, drop}
use Rattle.spelling.specs.Text.{spaced, text_line}
use Rattle.text_place.proofs.text.line.write_line.Given as goal

-- what stands from `end` on is the line's end, behind the literals that are left
abbrev pub invariant-loop-literal : goal.invariant-loop-literal
invariant-loop-literal l =
    let rest = l.literal-iterator.iter.rest.now in
    goal.iterator-loop-literal.can_next l.literal-iterator ×
    goal.iterator-loop-literal.is_finite l.literal-iterator ×
    record {
      before : l.clause ≡ rest ++ drop (length rest) l.clause;
      left : l.end ≡ length (spaced rest);
      behind : drop l.end l.bytes ≡ drop l.end (text_line l.clause);
      size : length l.bytes ≡ length (text_line l.clause);
    }
