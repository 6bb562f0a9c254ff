use Rattle.std.proofs.Common.{◌≡◌, arith, rules, sym, ◌∙◌, Some, None, tests}
use Rattle.std.specs.List.{position, zip}
use Rattle.std.proofs.lemmas.Iterator.{YieldsList-from_slice, YieldsList-from_zip}
use Rattle.std.proofs.lemmas.Iterator.Search.{position_from_yields_List}
use Rattle.std.proofs.lemmas.Bool.Decides.{nat_tests}
use Rattle.totallers.proofs.Goods.{bad, first_bad}
use Rattle.totallers.proofs.sum.Sum.check_items.Goals as goal

pub returns-in-Some : goal.returns-in-Some
returns-in-Some c =
    let s = c.args.self.now in
    let found : c.position.result ≡ position (bad s.first) (zip s.variables.now s.weights.now) = position_from_yields_List (bad s.first) c.position.new.self _ c.position.result c.position.ensures.ran (YieldsList-from_zip (YieldsList-from_slice s.variables.now (search rules)) (YieldsList-from_slice s.weights.now (search rules))) (λ x b q k. search (rules, tests)) in
    first_bad s.first s.variables.now s.weights.now (Some c.in-Some.index) (sym c.in-Some.is ∙ found) (grind (arith, nat_tests)) (grind (arith, nat_tests))

pub returns-in-None : goal.returns-in-None
returns-in-None c =
    let s = c.args.self.now in
    let found : c.position.result ≡ position (bad s.first) (zip s.variables.now s.weights.now) = position_from_yields_List (bad s.first) c.position.new.self _ c.position.result c.position.ensures.ran (YieldsList-from_zip (YieldsList-from_slice s.variables.now cc) (YieldsList-from_slice s.weights.now cc)) (λ x b q k. search (rules, tests)) in
    first_bad s.first s.variables.now s.weights.now None (sym c.in-None.is ∙ found) (grind (arith, nat_tests)) (grind (arith, nat_tests))
