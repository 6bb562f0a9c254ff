use Rattle.std.proofs.Common.{[], ◌∷◌, get_or, subst, arith}
use Rattle.std.specs.Result.{result_err}
use Rattle.std.proofs.lemmas.List.{drop_all, drop_more}
use Rattle.formulas.specs.Clause.{valid}
use Rattle.formulas.proofs.Every.{every_get_or}
use Rattle.places.specs.Written.{Writes}
use Rattle.places.proofs.Loops.{turn_exit, turn_more, turns_all, turns_begin}
use Rattle.places.proofs.Written.{writes_put}
use Rattle.adder_network.proofs.Adding.{joined_one}
use Rattle.adder_network.proofs.adder.write_clauses.Goals as goal

pub loop-clause-init : goal.loop-clause-init
loop-clause-init g c = turns_begin (joined_one c.args.clauses.now)

pub returns-in_err-put : goal.returns-in_err-put
returns-in_err-put g c =
    let cs = c.args.clauses.now in
    let i = c.loop-clause.clause-index in
    let x = c.clause-item.result in
    let p = c.loop-clause.place in
    let q = c.put.new.self in
    let one = writes_put g.P.Place x (get_or cs i x) c.clause-item.is (every_get_or valid cs i x c.loop-clause-test.true c.requires) p q
    c.put.result c.put.ensures.fault c.put.ensures.holds c.put.ensures.room in
    turn_exit c.loop-clause.invariant (drop_more cs i x c.loop-clause-test.true) c.from_residual.result c.from_residual.ensures.1
    (subst (λ o. Writes g.P.Place (get_or cs i x ∷ []) p q (result_err o)) c.in_err-put.was one)

pub loop-clause-preserved : goal.loop-clause-preserved
loop-clause-preserved g c =
    let cs = c.args.clauses.now in
    let i = c.loop-clause.clause-index in
    let x = c.clause-item.result in
    let p = c.loop-clause.place in
    let q = c.put.new.self in
    let one = writes_put g.P.Place x (get_or cs i x) c.clause-item.is (every_get_or valid cs i x c.loop-clause-test.true c.requires) p q
    c.put.result c.put.ensures.fault c.put.ensures.holds c.put.ensures.room in
    turn_more c.loop-clause.invariant (drop_more cs i x c.loop-clause-test.true)
    (subst (λ o. Writes g.P.Place (get_or cs i x ∷ []) p q (result_err o)) c.in_ok-put.was one)

pub returns : goal.returns
returns g c = turns_all c.loop-clause.invariant (drop_all c.loop-clause.clause-index c.args.clauses.now (omega arith))
