use Rattle.std.proofs.Common.{ℕ, List, length, drop, ap, ◌∙◌, arith}
use Rattle.chw_resolve.specs.Terms.{term_in}
use Rattle.chw_resolve.specs.Types.{type_in}
use Rattle.chw_resolve.proofs.ScopesClosed.{group_closed, pattern_closed}
use Rattle.chw_resolve.proofs.Smaller.{term_smaller, binding_smaller, alternative_smaller, argument_smaller}
use Rattle.chw_resolve.proofs.TermMade.{letrec_made, case_made, apply_made, vec_made}
use Rattle.chw_resolve.proofs.terms.+term_in.Goals as goal

pub letrec_in-binding_in-requires : goal.letrec_in-binding_in-requires
letrec_in-binding_in-requires t c =
    (omega (arith, c.decreases, binding_smaller c.args.bindings.now c.loop-binding.binding-index c.binding-item.result _ c.loop-binding-test.true c.binding-item.is), tt)

pub letrec_in-returns-clause-made : goal.letrec_in-returns-clause-made
letrec_in-returns-clause-made t c =
    let g = c.args.globals.now in
    let same = c.loop-binding.invariant in
    c.in_ok-letrec.ensures
    ∙ letrec_made g c.args.types.now c.args.values.now c.args.bindings.now c.args.body.now c.loop-binding.binding-index (omega (arith, c.loop-binding-test.false)) c.in_ok-bind_group.ensures same.made
    (c.in_ok-body.ensures.made ∙ (λ j. term_in g (same.types j) (same.values j) c.args.body.now))

pub letrec_in-returns-clause-values : goal.letrec_in-returns-clause-values
letrec_in-returns-clause-values t c =
    c.unbind_all.ensures
    ∙ ap (drop (length c.args.bindings.now)) (c.in_ok-body.ensures.values ∙ c.loop-binding.invariant.values ∙ c.in_ok-bind_group.ensures)
    ∙ group_closed c.args.bindings.now c.args.values.now

pub case_in-alternative_in-requires : goal.case_in-alternative_in-requires
case_in-alternative_in-requires t c =
    (omega (arith, c.decreases, alternative_smaller c.args.alternatives.now c.loop-alternative.alternative-index c.alternative-item.result _ c.loop-alternative-test.true c.alternative-item.is), tt)

pub case_in-returns-clause-made : goal.case_in-returns-clause-made
case_in-returns-clause-made t c =
    let g = c.args.globals.now in
    let same = c.loop-alternative.invariant in
    c.in_ok-case.ensures
    ∙ case_made g c.args.types.now c.args.values.now c.args.alternatives.now c.args.on.now c.loop-alternative.alternative-index (omega (arith, c.loop-alternative-test.false))
    (c.in_ok-on.ensures.made ∙ (λ j. term_in g (same.types j) (same.values j) c.args.on.now)) same.made

pub alternative_in-returns-clause-values : goal.alternative_in-returns-clause-values
alternative_in-returns-clause-values t c =
    c.unbind_all.ensures
    ∙ (λ j. drop (c.binders.ensures j) ((c.in_ok-body.ensures.values ∙ c.in_ok-bind_pattern.ensures) j))
    ∙ pattern_closed c.args.globals.now c.args.alternative.now.pattern c.in_ok-pattern.pattern c.args.values.now c.in_ok-pattern.ensures

pub apply_in-argument_in-requires : goal.apply_in-argument_in-requires
apply_in-argument_in-requires t c =
    (omega (arith, c.decreases, argument_smaller c.args.arguments.now c.loop-argument.argument-index c.argument-item.result _ c.loop-argument-test.true c.argument-item.is), tt)

pub apply_in-returns-clause-made : goal.apply_in-returns-clause-made
apply_in-returns-clause-made t c =
    let g = c.args.globals.now in
    let same = c.loop-argument.invariant in
    c.in_ok-applied.ensures
    ∙ apply_made g c.args.types.now c.args.values.now c.args.arguments.now c.args.head.now c.loop-argument.argument-index (omega (arith, c.loop-argument-test.false))
    (c.in_ok-head.ensures.made ∙ (λ j. term_in g (same.types j) (same.values j) c.args.head.now)) same.made

pub vec_in-term_in-requires : goal.vec_in-term_in-requires
vec_in-term_in-requires t c =
    (omega (arith, c.decreases, term_smaller c.args.elements.now c.loop-element.element-index c.element-item.result _ c.loop-element-test.true c.element-item.is), tt)

pub vec_in-returns-clause-made : goal.vec_in-returns-clause-made
vec_in-returns-clause-made t c =
    let g = c.args.globals.now in
    let same = c.loop-element.invariant in
    c.vec_lit.ensures
    ∙ vec_made g c.args.types.now c.args.values.now c.args.ty.now c.args.elements.now c.loop-element.element-index (omega (arith, c.loop-element-test.false))
    (c.in_ok-ty.ensures.made ∙ ap (λ (names : List (List ℕ)). type_in g names c.args.ty.now) same.types) same.made
