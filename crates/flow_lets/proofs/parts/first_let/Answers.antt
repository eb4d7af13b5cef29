use Rattle.chw_terms.specs.TermView.{group_of}
use Rattle.flow_lets.proofs.FirstLet.{none_more, parted_at}
use Rattle.flow_lets.proofs.parts.first_let.Goals as goal

pub returns-in-Some-clause-some : goal.returns-in-Some-clause-some
returns-in-Some-clause-some c =
    parted_at c.args.group.now c.loop-i.i c.index-group-i.result (group_of c.in-Some.inner.group.now) c.in-Some.inner.body.now c.loop-i-test.true c.index-group-i.is c.in-Some.ensures.some c.loop-i.invariant

pub loop-i-preserved : goal.loop-i-preserved
loop-i-preserved c =
    none_more c.args.group.now c.loop-i.i c.index-group-i.result c.loop-i-test.true c.index-group-i.is c.in_default.ensures.none c.loop-i.invariant
