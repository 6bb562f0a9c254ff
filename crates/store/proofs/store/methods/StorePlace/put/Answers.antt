use Rattle.spelling.proofs.Store.{put}
use Rattle.places.proofs.Clauses.{valid_from}
use Rattle.store.proofs.store.methods.StorePlace.put.Goals as goal

pub invariant_of-self-2 : goal.invariant_of-self-2
invariant_of-self-2 g c =
    let p = c.args.self.now in
    let clause = c.args.clause.now in
    let t = c.in-Some.ensures in
    record {
      kept = (put _ g.S.Spelling.spelling g.met.S.Spelling.lawful p.elements.now p.used p.count p.kept
          clause c.in-Some.charge c.write.new.room (valid_from clause c.in_ok-check_clause.ensures) t.value t.after).0;
    }

pub returns-clause-holds : goal.returns-clause-holds
returns-clause-holds g c =
    let p = c.args.self.now in
    let clause = c.args.clause.now in
    let t = c.in-Some.ensures in
    (put _ g.S.Spelling.spelling g.met.S.Spelling.lawful p.elements.now p.used p.count p.kept
    clause c.in-Some.charge c.write.new.room (valid_from clause c.in_ok-check_clause.ensures) t.value t.after).1
