use Rattle.std.proofs.Common.{ap, ◌∙◌}
use Rattle.chw_types.specs.Polynomials.{coefficient, ended}
use Rattle.chw_types.specs.SummandView.{sum_of}
use Rattle.chw_types.proofs.SumsFound.{times_decided}
use Rattle.chw_types.proofs.sameness.same_times.Goals as goal

pub returns : goal.returns
returns c =
    let p = ap sum_of c.deref.ensures.value in
    let q = ap sum_of c.deref-2.ensures.value in
    let r = ap sum_of c.deref-3.ensures.value in
    let s = ap sum_of c.deref-4.ensures.value in
    times_decided c.in_ok-same_products.field-0 c.args.a.now c.args.b.now c.args.c.now c.args.d.now
    (sum_of c.deref.result.now) (sum_of c.deref-2.result.now) (sum_of c.deref-3.result.now) (sum_of c.deref-4.result.now)
    (λ m. ap (λ k. ended (coefficient k m)) p ∙ c.in_ok-p.ensures.sum m)
    (λ m. ap (λ k. ended (coefficient k m)) q ∙ c.in_ok-q.ensures.sum m)
    (λ m. ap (λ k. ended (coefficient k m)) r ∙ c.in_ok-r.ensures.sum m)
    (λ m. ap (λ k. ended (coefficient k m)) s ∙ c.in_ok-s.ensures.sum m)
    c.in_ok-same_products.ensures
