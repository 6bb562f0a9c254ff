use Rattle.std.proofs.Common.{◌≡◌, ◌+◌, ◌-◌, ◌^◌, length, take, min}
use Rattle.spelling.specs.Text.{spaced}
use Rattle.text_place.proofs.text.line.line_len.Given as goal

abbrev pub invariant-loop-literal : goal.invariant-loop-literal
invariant-loop-literal l = l.len ≡ min (length (spaced (take l.literal-index l.clause)) + 2) (2 ^ 64 - 1)
