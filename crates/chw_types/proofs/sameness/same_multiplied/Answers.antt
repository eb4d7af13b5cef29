use Rattle.std.proofs.Common.{◌≡◌, ◌↔◌, IsTrue, subst}
use Rattle.chw_types.specs.Polynomials.{multiplied}
use Rattle.chw_types.specs.SummandView.{sum_of}
use Rattle.chw_types.proofs.NormalForms.{lists_decide}
use Rattle.chw_types.proofs.sameness.same_multiplied.Goals as goal

pub returns : goal.returns
returns c =
    lists_decide c.same_sums.result (sum_of c.in_ok-p.p.items) (sum_of c.in_ok-q.q.items) (multiplied c.args.a.now) (multiplied c.args.b.now)
    c.in_ok-p.ensures.normal c.in_ok-q.ensures.normal c.in_ok-p.ensures.sum c.in_ok-q.ensures.sum
    (subst (λ l. IsTrue c.same_sums.result ↔ sum_of l ≡ sum_of c.in_ok-q.q.items) c.deref.ensures.value
    (subst (λ r. IsTrue c.same_sums.result ↔ sum_of c.deref.result.now ≡ sum_of r) c.deref-2.ensures.value c.same_sums.ensures))
