use Rattle.std.proofs.Common.{◌+◌, ◌/◌, ◌%◌, length, decimal, sym, ap, arith}
use Rattle.std.proofs.lemmas.Fmt.{decimal_digit, decimal_step, length-decimal-le}
use Rattle.std.proofs.lemmas.List.{length_push}
use Rattle.text_place.proofs.text.numeral.+number_len.Goals as goal

pub returns-then-n-lt10 : goal.returns-then-n-lt10
returns-then-n-lt10 t c = (sym (ap length (decimal_digit c.args.n c.if-n-lt10.true)), omega arith)

pub returns-else-n-lt10 : goal.returns-else-n-lt10
returns-else-n-lt10 t c =
    let n = c.args.n in
    let f = c.ranges.n.fits in
    let e = ap length (decimal_step n c.if-n-lt10.false (omega arith)) in
    let p = length_push (decimal (n / 10)) (48 + n % 10) in
    (omega arith, omega (arith, length-decimal-le 20 n (omega arith) (omega arith) (omega arith)))
