use Rattle.std.proofs.Common.{◌↔◌, IsTrue, refl, ap, sym, ◌∙◌, subst}
use Rattle.chw_types.specs.TypeTree.{nat_product}
use Rattle.chw_types.specs.TypeView.{tree_of}
use Rattle.chw_types.specs.Polynomials.{multiplied, coefficient, ended, SameNaturals}
use Rattle.chw_types.proofs.SameTypesFound.{agreeing_sums, sums_decided}
use Rattle.chw_types.proofs.sameness.same_naturals.Goals as goal

pub returns-then-equal : goal.returns-then-equal
returns-then-equal c =
    sym (agreeing_sums (multiplied c.args.a.now) (multiplied c.args.b.now) (λ m. ap (λ t. ended (coefficient (multiplied t) m)) (c.if-equal.ensures.0 refl)))

pub returns-in_ok-same_times-in-Times-Times : goal.returns-in_ok-same_times-in-Times-Times
returns-in_ok-same_times-in-Times-Times c =
    let a = (λ i. nat_product (c.deref.ensures i) (c.deref-in-Times-Times.ensures i)) ∙ ap tree_of (sym c.in-Times-Times.is-0) ∙ c.a.view_is in
    let b = (λ i. nat_product (c.deref-in-Times-Times-2.ensures i) (c.deref-in-Times-Times-3.ensures i)) ∙ ap tree_of (sym c.in-Times-Times.is-1) ∙ c.b.view_is in
    sums_decided c.in_ok-same_times-in-Times-Times.field-0 (multiplied c.args.a.now) (multiplied c.args.b.now)
    (subst (λ t. IsTrue c.in_ok-same_times-in-Times-Times.field-0 ↔ SameNaturals t c.args.b.now) a
    (subst (λ u. IsTrue c.in_ok-same_times-in-Times-Times.field-0 ↔ SameNaturals (nat_product c.deref.result.now c.deref-in-Times-Times.result.now) u) b c.in_ok-same_times-in-Times-Times.ensures))

pub returns-in_ok-same_multiplied-in_default : goal.returns-in_ok-same_multiplied-in_default
returns-in_ok-same_multiplied-in_default c =
    sums_decided c.in_ok-same_multiplied-in_default.field-0 (multiplied c.args.a.now) (multiplied c.args.b.now) c.in_ok-same_multiplied-in_default.ensures
