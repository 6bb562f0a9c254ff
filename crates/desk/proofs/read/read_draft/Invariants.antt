use Rattle.desk.proofs.Reading.{Left}
use Rattle.desk.proofs.read.read_draft.Given as goal

abbrev pub invariant-loop-index : goal.invariant-loop-index
invariant-loop-index l = Left goal.iterator-loop-index.next_gives l.text l.index-iterator l.found
