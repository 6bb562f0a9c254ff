use Rattle.std.proofs.Common.{◌≡◌, ℕ, ◌+◌, get_or, take, ap, ◌∙◌, rules, arith}
use Rattle.std.specs.List.{enumerate_from, range_with_len}
use Rattle.std.specs.Option.{option_map}
use Rattle.std.proofs.lemmas.Iterator.{YieldsList-from_slice}
use Rattle.std.proofs.lemmas.Iterator.Consumers.{YieldsList-from_enumerate}
use Rattle.std.proofs.lemmas.Iterator.Search.{position_from_yields_List}
use Rattle.std.proofs.lemmas.List.FromFn.{get_or-enumerate_from, length-enumerate_from}
use borrow.Author.Tests.{tests}
use Rattle.parts.specs.Tests.{first_fault, has, repeated}
use Rattle.parts.specs.declared.fault.KindFault.TheVariants.{Repeated}
use Rattle.parts.proofs.Found.{found, refused}
use Rattle.parts.proofs.cells.check_distinct.Goals as goal

pub returns : goal.returns
returns c =
    let xs = c.args.body.now in
    let test = λ (p : ℕ × ℕ). has p.1 (take p.0 xs) in
    let n = length-enumerate_from 0 xs in
    let p = position_from_yields_List test _ _ c.position.result c.position.ensures.ran (YieldsList-from_enumerate (YieldsList-from_slice xs cc) (cc)) (λ x b q k. search (rules, tests)) in
    refused Repeated c.position.result c.map_or.result (search rules) ∙ ap (option_map Repeated) p ∙
    found (0, 0) test Repeated (repeated xs) (enumerate_from 0 xs) (λ i l. ap test (get_or-enumerate_from 0 xs i (0, 0) (omega arith)) ∙ (let e : 0 + i ≡ i = omega arith in ap (λ k. has (get_or xs i 0) (take k xs)) e)) ∙
    ap (λ m. first_fault (repeated xs) Repeated (range_with_len 0 m)) n
