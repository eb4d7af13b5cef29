use Rattle.chw_types.proofs.SummandsTaken.{least_is_first, least_is_second, least_is_both}
use Rattle.chw_types.proofs.polynomial.least.Goals as goal

pub returns-in-Less-clause-taken : goal.returns-in-Less-clause-taken
returns-in-Less-clause-taken c =
    least_is_first c.pop_front.result c.args.p.now.items c.pop_front.new.self.items c.args.q.now.items c.in_ok-front.field-0.now c.in_ok-front-2.field-0.now c.deref.result.now c.deref-2.result.now
    c.pop_front.ensures.items c.in_ok-front.ensures.lookup c.in_ok-front-2.ensures.item.0 c.in_ok-front-2.ensures.lookup c.deref.ensures.value c.deref-2.ensures.value c.in-Less.ensures

pub returns-in-Greater-clause-taken : goal.returns-in-Greater-clause-taken
returns-in-Greater-clause-taken c =
    least_is_second c.pop_front-in-Greater.result c.args.p.now.items c.args.q.now.items c.pop_front-in-Greater.new.self.items c.in_ok-front.field-0.now c.in_ok-front-2.field-0.now c.deref.result.now c.deref-2.result.now
    c.pop_front-in-Greater.ensures.items c.in_ok-front-2.ensures.lookup c.in_ok-front.ensures.item.0 c.in_ok-front.ensures.lookup c.deref.ensures.value c.deref-2.ensures.value c.in-Greater.ensures

pub returns-in_ok-second-in-Equal-clause-taken : goal.returns-in_ok-second-in-Equal-clause-taken
returns-in_ok-second-in-Equal-clause-taken c =
    least_is_both c.args.p.now.items c.pop_front-in-Equal.new.self.items c.args.q.now.items c.pop_front-in-Equal-2.new.self.items c.in_ok-front.field-0.now c.in_ok-front-2.field-0.now c.in_ok-first-in-Equal.first c.in_ok-second-in-Equal.second c.saturating_add.result c.deref.result.now c.deref-2.result.now
    c.in_ok-first-in-Equal.ensures.items c.in_ok-front.ensures.lookup c.in_ok-second-in-Equal.ensures.items c.in_ok-front-2.ensures.lookup c.deref.ensures.value c.deref-2.ensures.value c.in-Equal.ensures c.saturating_add.ensures
