use Rattle.spelling.proofs.Store.{back_none, back_some}
use Rattle.store.proofs.store.methods.StorePlace.cut_back.Goals as goal

pub returns-then-m-self : goal.returns-then-m-self
returns-then-m-self g c =
    let p = c.args.self.now in back_none _ g.S.Spelling.spelling g.met.S.Spelling.lawful p.elements.now p.used p.count p.kept c.args.m c.if-m-self.true

pub invariant_of-self : goal.invariant_of-self
invariant_of-self g c =
    let p = c.args.self.now in
    let last = c.last_lines-start.ensures in
    record {
      kept = (back_some _ g.S.Spelling.spelling g.met.S.Spelling.lawful p.elements.now p.used p.count p.kept
          c.args.m c.last_lines-start.result c.used.result.now c.clear.new.elements c.if-m-self.false c.used.ensures.value last.most last.least c.clear.ensures).0;
    }

pub returns : goal.returns
returns g c =
    let p = c.args.self.now in
    let last = c.last_lines-start.ensures in
    (back_some _ g.S.Spelling.spelling g.met.S.Spelling.lawful p.elements.now p.used p.count p.kept
    c.args.m c.last_lines-start.result c.used.result.now c.clear.new.elements c.if-m-self.false c.used.ensures.value last.most last.least c.clear.ensures).1
