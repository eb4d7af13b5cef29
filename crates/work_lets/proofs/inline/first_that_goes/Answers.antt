use Rattle.std.proofs.Common.{◌-◌, MatchBool, ap, subst, arith}
use Rattle.work_lets.specs.Inlined.{Goes, Stays}
use Rattle.work_lets.proofs.Inlined.{first_found, stays_next}
use Rattle.work_lets.proofs.inline.first_that_goes.Goals as goal

pub returns-then-branch : goal.returns-then-branch
returns-then-branch c =
    let bs = c.args.bindings.now in
    let n = c.loop-n.n in
    let k = c.in_ok-count.count - 1 - n in
    let count = c.in_ok-count.ensures.narrow in
    let b = c.index-bindings-n.result in
    let goes = subst (λ r. MatchBool r (Goes c.args.datas.now c.args.mode b k) (Stays c.args.datas.now c.args.mode b k)) c.if-branch.true c.in_ok-goes.ensures in
    first_found c.args.datas.now c.args.mode bs n k b (omega (arith, c.loop-n-test.true, count)) c.index-bindings-n.is c.loop-n.invariant (ap (λ m. m - 1 - n) count) goes

pub loop-n-preserved : goal.loop-n-preserved
loop-n-preserved c =
    let bs = c.args.bindings.now in
    let n = c.loop-n.n in
    let k = c.in_ok-count.count - 1 - n in
    let count = c.in_ok-count.ensures.narrow in
    let b = c.index-bindings-n.result in
    let stays = subst (λ r. MatchBool r (Goes c.args.datas.now c.args.mode b k) (Stays c.args.datas.now c.args.mode b k)) c.if-branch.false c.in_ok-goes.ensures in
    stays_next c.args.datas.now c.args.mode bs n k b (omega (arith, c.loop-n-test.true, count)) c.index-bindings-n.is c.loop-n.invariant (ap (λ m. m - 1 - n) count) stays
