use Rattle.std.proofs.Common.{length, ap, ◌∙◌}
use Rattle.bench_sums.proofs.Counted.{counted, refused}
use Rattle.bench_sums.proofs.write_words.Goals as goal

pub returns-in-Ok : goal.returns-in-Ok
returns-in-Ok g c =
    ap length c.used.ensures.value ∙
    counted g.T.Totaller.meaning c.args.sum.now.variables.now c.args.sum.now.weights.now c.args.sum.now.target c.args.sum.now.first c.open-place.result
    c.write.new.place (length c.args.words.now) c.open-place.ensures.holds c.open-place.ensures.room c.in-Ok.field-0 c.in-Ok.ensures

pub returns-in-Err : goal.returns-in-Err
returns-in-Err g c =
    refused g.T.Totaller.meaning c.args.sum.now.variables.now c.args.sum.now.weights.now c.args.sum.now.target c.args.sum.now.first c.open-place.result
    c.write.new.place (length c.args.words.now) c.open-place.ensures.holds c.open-place.ensures.room c.in-Err.field-0 c.in-Err.ensures
