use Rattle.std.proofs.Common.{◌≡◌, ◌+◌, ◌++◌, length, drop, count_by}
use Rattle.places.proofs.scan.last_lines.Given as goal

-- so many marks stand behind what is left to walk
abbrev pub invariant-loop-index : goal.invariant-loop-index
invariant-loop-index g l =
    let rest = l.index-iterator.iter.iter.rest.now in
    (goal.iterator-loop-index g).can_next l.index-iterator ×
    (goal.iterator-loop-index g).is_finite l.index-iterator ×
    record {
      count : l.index-iterator.iter.count ≡ 0;
      before : l.buffer ≡ rest ++ drop (length rest) l.buffer;
      behind : count_by g.T.Element.ends (drop (length rest) l.buffer) + l.left ≡ l.lines;
    }
