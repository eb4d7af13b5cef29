use Rattle.std.proofs.Common.{◌≡◌, ℕ, List, ◌∷◌, ap, ◌∙◌, refl, sym, arith}
use Rattle.std.proofs.lemmas.Result.{on_ok_weaker}
use Rattle.chw_grammar.specs.TermTree.{term_lambda, term_type_lambda, term_letrec, term_case, term_apply, term_name, term_constructor, term_vec}
use Rattle.chw_grammar.specs.TermView.{terms_of, bindings_of, alternatives_of, arguments_of, term_of}
use Rattle.chw_names.specs.Unknowns.{Walks, Scopes}
use Rattle.chw_names.proofs.Sizes.{term_smaller, binding_smaller, alternative_smaller, argument_smaller}
use Rattle.chw_names.proofs.UnknownTerms.{in_binding, in_alternative, in_argument, in_element, bindings_walk, alternatives_walk, arguments_walk, terms_walk, typed_walks, lambda_walks, type_lambda_walks, letrec_walks, alternative_walks, case_walks, apply_walks, vec_walks, name_walks, constructor_walks}
use Rattle.chw_names.proofs.Walking.{walks_more, in_types}
use Rattle.chw_names.proofs.unknown_terms.+term.Goals.{each_argument-in-OfTerm+in_ok-term-in-OfTerm, each_argument-in-OfType+in_ok-ty-in-OfType}
use Rattle.chw_names.proofs.unknown_terms.+term.Goals as goal

pub term-returns-in_ok-term-in-Lambda : goal.term-returns-in_ok-term-in-Lambda
term-returns-in_ok-term-in-Lambda t c =
    let e = c.deref.result.now in
    let whole : term_lambda c.in-Lambda.name c.in-Lambda.annotation e ≡ c.args.tree.now = rw c.deref.ensures (ap term_of (sym c.in-Lambda.is) ∙ c.tree.view_is) in
    lambda_walks c.args.globals.now c.in-Lambda.name c.in-Lambda.annotation e whole c.in_ok-ty-in-Lambda.ensures (c.in_ok-bind-in-Lambda.ensures.bound ∙ ap (λ (n : List ℕ). n ∷ c.args.values.now) c.as_slice.ensures) c.in_ok-term-in-Lambda.ensures c.unbind.ensures

pub term-returns-in_ok-term-in-TypeLambda : goal.term-returns-in_ok-term-in-TypeLambda
term-returns-in_ok-term-in-TypeLambda t c =
    let e = c.deref-in-TypeLambda.result.now in
    let whole : term_type_lambda c.in-TypeLambda.name c.in-TypeLambda.field-1 e ≡ c.args.tree.now = rw c.deref-in-TypeLambda.ensures (ap term_of (sym c.in-TypeLambda.is) ∙ c.tree.view_is) in
    type_lambda_walks c.args.globals.now c.in-TypeLambda.name c.in-TypeLambda.field-1 e whole (c.in_ok-bind-in-TypeLambda.ensures.bound ∙ ap (λ (n : List ℕ). n ∷ c.args.types.now) c.as_slice-in-TypeLambda.ensures) c.in_ok-term-in-TypeLambda.ensures c.unbind-in-TypeLambda.ensures

pub term-returns-in_ok-term-in-LetRec : goal.term-returns-in_ok-term-in-LetRec
term-returns-in_ok-term-in-LetRec t c =
    let bs = c.as_slice-bindings.result.now in
    let e = c.deref-in-LetRec.result.now in
    let whole : term_letrec (bindings_of bs) e ≡ c.args.tree.now = rw (c.as_slice-bindings.ensures.value, c.deref-in-LetRec.ensures) (ap term_of (sym c.in-LetRec.is) ∙ c.tree.view_is) in
    letrec_walks c.args.globals.now bs e _ whole refl c.in_ok-bind_all-in-LetRec.ensures c.in_ok-each_binding-in-LetRec.ensures c.in_ok-term-in-LetRec.ensures c.unbind_all.ensures

pub term-returns-in_ok-term-in-Case : goal.term-returns-in_ok-term-in-Case
term-returns-in_ok-term-in-Case t c =
    let alts = c.as_slice-in-Case.result.now in
    let e = c.deref-in-Case.result.now in
    let whole : term_case e (alternatives_of alts) ≡ c.args.tree.now = rw (c.deref-in-Case.ensures, c.as_slice-in-Case.ensures.value) (ap term_of (sym c.in-Case.is) ∙ c.tree.view_is) in
    on_ok_weaker c.each_alternative.result (case_walks c.args.globals.now e alts whole c.in_ok-term-in-Case.ensures) c.each_alternative.ensures

pub term-returns-in_ok-term-in-Apply : goal.term-returns-in_ok-term-in-Apply
term-returns-in_ok-term-in-Apply t c =
    let args = c.as_slice-in-Apply.result.now in
    let e = c.deref-in-Apply.result.now in
    let whole : term_apply e (arguments_of args) ≡ c.args.tree.now = rw (c.deref-in-Apply.ensures, c.as_slice-in-Apply.ensures.value) (ap term_of (sym c.in-Apply.is) ∙ c.tree.view_is) in
    on_ok_weaker c.each_argument.result (apply_walks c.args.globals.now e args whole c.in_ok-term-in-Apply.ensures) c.each_argument.ensures

pub term-returns-in-Name : goal.term-returns-in-Name
term-returns-in-Name t c =
    let whole : term_name c.in-Name.word ≡ c.args.tree.now = ap term_of (sym c.in-Name.is) ∙ c.tree.view_is in
    name_walks c.args.globals.now c.in-Name.word c.args.types.now c.args.values.now whole c.name.ensures

pub term-returns-in-Constructor : goal.term-returns-in-Constructor
term-returns-in-Constructor t c =
    let whole : term_constructor c.in-Constructor.word ≡ c.args.tree.now = ap term_of (sym c.in-Constructor.is) ∙ c.tree.view_is in
    constructor_walks c.args.globals.now c.in-Constructor.word c.args.types.now c.args.values.now whole c.constructor.ensures

pub term-returns-in_ok-ty-in-VecLit : goal.term-returns-in_ok-ty-in-VecLit
term-returns-in_ok-ty-in-VecLit t c =
    let es = c.as_slice-in-VecLit.result.now in
    let whole : term_vec c.in-VecLit.annotation (terms_of es) ≡ c.args.tree.now = rw c.as_slice-in-VecLit.ensures.value (ap term_of (sym c.in-VecLit.is) ∙ c.tree.view_is) in
    on_ok_weaker c.each_element.result (vec_walks c.args.globals.now c.in-VecLit.annotation es whole c.in_ok-ty-in-VecLit.ensures) c.each_element.ensures

pub typed-returns : goal.typed-returns
typed-returns t c = on_ok_weaker c.term.result (typed_walks c.args.globals.now c.args.annotation.now c.args.tree.now c.in_ok-ty.ensures) c.term.ensures

pub each_binding-typed-requires : goal.each_binding-typed-requires
each_binding-typed-requires t c =
    (omega (arith, c.decreases, binding_smaller c.args.bindings.now c.loop-binding.binding-index c.binding-item.result _ c.loop-binding-test.true c.binding-item.is), tt)

pub each_binding-loop-binding-preserved : goal.each_binding-loop-binding-preserved
each_binding-loop-binding-preserved t c =
    walks_more (in_binding c.args.globals.now) c.args.bindings.now c.loop-binding.binding-index c.binding-item.result c.loop-binding-test.true c.binding-item.is c.loop-binding.invariant c.in_ok-typed.ensures

pub each_binding-returns : goal.each_binding-returns
each_binding-returns t c = bindings_walk c.args.globals.now c.args.bindings.now c.loop-binding.binding-index (omega (arith, c.loop-binding-test.false)) c.loop-binding.invariant

pub each_alternative-term-requires : goal.each_alternative-term-requires
each_alternative-term-requires t c =
    (omega (arith, c.decreases, alternative_smaller c.args.alternatives.now c.loop-alternative.alternative-index c.alternative-item.result _ c.loop-alternative-test.true c.alternative-item.is), tt)

pub each_alternative-loop-alternative-preserved : goal.each_alternative-loop-alternative-preserved
each_alternative-loop-alternative-preserved t c =
    let a = c.alternative-item.result in
    walks_more (in_alternative c.args.globals.now) c.args.alternatives.now c.loop-alternative.alternative-index c.alternative-item.result c.loop-alternative-test.true c.alternative-item.is c.loop-alternative.invariant
    (alternative_walks c.args.globals.now a c.in_ok-bound.bound c.in_ok-bound.ensures.unknown c.in_ok-bound.ensures.bound c.in_ok-bound.ensures.scope c.in_ok-term.ensures c.unbind_all.ensures)

pub each_alternative-returns : goal.each_alternative-returns
each_alternative-returns t c = alternatives_walk c.args.globals.now c.args.alternatives.now c.loop-alternative.alternative-index (omega (arith, c.loop-alternative-test.false)) c.loop-alternative.invariant

pub each_argument-term-requires : goal.each_argument-term-requires
each_argument-term-requires t c =
    (omega (arith, c.decreases, argument_smaller c.args.arguments.now c.loop-argument.argument-index c.in-OfTerm.argument c.argument-item.result _ c.loop-argument-test.true c.argument-item.is c.in-OfTerm.is), tt)

pub each_argument-loop-argument-preserved : goal.each_argument-loop-argument-preserved
each_argument-loop-argument-preserved t c =
    let item : Walks Scopes (c.loop-argument.types, c.loop-argument.values) (c.match-argument.types, c.match-argument.values) c.loop-argument.least c.match-argument.least
    (in_argument c.args.globals.now (c.loop-argument.types, c.loop-argument.values) c.argument-item.result) =
    elim c.match-argument.branch [
      | each_argument-in-OfTerm+in_ok-term-in-OfTerm w ↦ rw (w.in-OfTerm.is, w.types-is, w.values-is, w.least-is) w.in_ok-term-in-OfTerm.ensures
      | each_argument-in-OfType+in_ok-ty-in-OfType w ↦ rw (w.in-OfType.is, w.types-is, w.values-is, w.least-is) (in_types c.loop-argument.values w.in_ok-ty-in-OfType.ensures)
    ] in
    walks_more (in_argument c.args.globals.now) c.args.arguments.now c.loop-argument.argument-index c.argument-item.result c.loop-argument-test.true c.argument-item.is c.loop-argument.invariant item

pub each_argument-returns : goal.each_argument-returns
each_argument-returns t c = arguments_walk c.args.globals.now c.args.arguments.now c.loop-argument.argument-index (omega (arith, c.loop-argument-test.false)) c.loop-argument.invariant

pub each_element-term-requires : goal.each_element-term-requires
each_element-term-requires t c =
    (omega (arith, c.decreases, term_smaller c.args.elements.now c.loop-element.element-index c.element-item.result _ c.loop-element-test.true c.element-item.is), tt)

pub each_element-loop-element-preserved : goal.each_element-loop-element-preserved
each_element-loop-element-preserved t c =
    walks_more (in_element c.args.globals.now) c.args.elements.now c.loop-element.element-index c.element-item.result c.loop-element-test.true c.element-item.is c.loop-element.invariant c.in_ok-term.ensures

pub each_element-returns : goal.each_element-returns
each_element-returns t c = terms_walk c.args.globals.now c.args.elements.now c.loop-element.element-index (omega (arith, c.loop-element-test.false)) c.loop-element.invariant
