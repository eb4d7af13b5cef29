use Rattle.std.proofs.Common.{◌≡◌, ◌↔◌, IsTrue, subst}
use Rattle.chw_types.specs.Polynomials.{by_each}
use Rattle.chw_types.specs.SummandView.{sum_of}
use Rattle.chw_types.proofs.NormalForms.{lists_decide}
use Rattle.chw_types.proofs.polynomial.same_products.Goals as goal

pub returns : goal.returns
returns c =
    lists_decide c.same_sums.result (sum_of c.in_ok-left.left.items) (sum_of c.in_ok-right.right.items)
    (by_each (sum_of c.args.p.now) (sum_of c.args.q.now)) (by_each (sum_of c.args.r.now) (sum_of c.args.s.now))
    c.in_ok-left.ensures.normal c.in_ok-right.ensures.normal c.in_ok-left.ensures.product c.in_ok-right.ensures.product
    (subst (λ l. IsTrue c.same_sums.result ↔ sum_of l ≡ sum_of c.in_ok-right.right.items) c.deref.ensures.value
    (subst (λ r. IsTrue c.same_sums.result ↔ sum_of c.deref.result.now ≡ sum_of r) c.deref-2.ensures.value c.same_sums.ensures))
