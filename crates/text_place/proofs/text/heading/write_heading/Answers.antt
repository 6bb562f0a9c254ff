use Rattle.std.proofs.Common.{◌++◌, length, drop, codes, ap₂, ◌∙◌}
use Rattle.spelling.proofs.Writing.{over_more}
use Rattle.text_place.proofs.text.heading.write_heading.Goals as goal

pub returns-clause-after : goal.returns-clause-after
returns-clause-after c =
    let xs = c.args.bytes.now in
    let v = c.as_bytes-variables.result.now in
    let k = c.as_bytes-clauses.result.now in
    let a = codes "p cnf " in
    let one = c.write_bytes-end in
    let two = c.write_bytes-end-2 in
    let three = c.write_bytes-end-3 in
    let four = c.write_bytes-end-4 in
    let five = c.write_bytes-end-5 in
    let o = over_more xs a v one.result two.result one.new.bytes two.new.bytes (one.ensures.end, one.ensures.after) two.ensures.end two.ensures.after in
    let o = over_more xs (a ++ v) (codes " ") two.result three.result two.new.bytes three.new.bytes o three.ensures.end three.ensures.after in
    let o = over_more xs (a ++ v ++ codes " ") k three.result four.result three.new.bytes four.new.bytes o four.ensures.end four.ensures.after in
    let o = over_more xs (a ++ v ++ codes " " ++ k) (codes "\n") four.result five.result four.new.bytes five.new.bytes o five.ensures.end five.ensures.after in
    o.1 ∙ ap₂ (λ v k. let h = a ++ v ++ codes " " ++ k ++ codes "\n" in h ++ drop (length h) xs)
    (c.as_bytes-variables.ensures.value ∙ c.format.ensures.text) (c.as_bytes-clauses.ensures.value ∙ c.format-2.ensures.text)
