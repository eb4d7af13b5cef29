use Rattle.std.proofs.Common.{sym, ap, ◌∙◌}
use Rattle.chw_types.specs.TypeView.{tree_of}
use Rattle.chw_types.specs.Polynomials.{multiplied, by_each, coefficient, ended}
use Rattle.chw_types.specs.SummandView.{sum_of}
use Rattle.chw_types.proofs.SumsFound.{agree_sum, agree_product}
use Rattle.chw_types.proofs.polynomial.+multiplied.Goals as goal

pub returns-in_ok-plus-in-Sum-clause-sum : goal.returns-in_ok-plus-in-Sum-clause-sum
returns-in_ok-plus-in-Sum-clause-sum t c m =
    agree_sum c.in-Sum.a.value c.in-Sum.b.value (sum_of c.in_ok-p-in-Sum.p.items) (sum_of c.in_ok-q-in-Sum.q.items) (sum_of c.in_ok-plus-in-Sum.field-0.items)
    (λ m. c.in_ok-p-in-Sum.ensures.sum m ∙ ap (λ t. ended (coefficient (multiplied t) m)) c.deref.ensures)
    (λ m. c.in_ok-q-in-Sum.ensures.sum m ∙ ap (λ t. ended (coefficient (multiplied t) m)) c.deref-in-Sum.ensures)
    c.in_ok-plus-in-Sum.ensures.sum
    m
    ∙ ap (λ n. ended (coefficient (multiplied (tree_of n)) m)) (sym c.in-Sum.is)
    ∙ ap (λ t. ended (coefficient (multiplied t) m)) c.t.view_is

pub returns-in_ok-product-in-Times-clause-sum : goal.returns-in_ok-product-in-Times-clause-sum
returns-in_ok-product-in-Times-clause-sum t c m =
    agree_product c.in-Times.a.value c.in-Times.b.value (sum_of c.in_ok-p-in-Times.p.items) (sum_of c.in_ok-q-in-Times.q.items) (sum_of c.in_ok-product-in-Times.field-0.items)
    (λ m. c.in_ok-p-in-Times.ensures.sum m ∙ ap (λ t. ended (coefficient (multiplied t) m)) c.deref-in-Times.ensures)
    (λ m. c.in_ok-q-in-Times.ensures.sum m ∙ ap (λ t. ended (coefficient (multiplied t) m)) c.deref-in-Times-2.ensures)
    (λ m. c.in_ok-product-in-Times.ensures.product m ∙ (λ i. ended (coefficient (by_each (sum_of (c.deref-in-Times-3.ensures.value i)) (sum_of (c.deref-in-Times-4.ensures.value i))) m)))
    m
    ∙ ap (λ n. ended (coefficient (multiplied (tree_of n)) m)) (sym c.in-Times.is)
    ∙ ap (λ t. ended (coefficient (multiplied t) m)) c.t.view_is
