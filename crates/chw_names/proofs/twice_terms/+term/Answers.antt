use Rattle.std.proofs.Common.{◌≡◌, [], ap, ◌∙◌, sym, arith}
use Rattle.std.proofs.lemmas.Result.{on_ok_weaker}
use Rattle.chw_grammar.specs.TermTree.{term_letrec, term_case, term_apply}
use Rattle.chw_grammar.specs.TermView.{bindings_of, alternatives_of, arguments_of, term_of}
use Rattle.chw_names.specs.Twices.{term_twices, pattern_words}
use Rattle.chw_names.specs.Words.{seconds, Meets}
use Rattle.chw_names.proofs.Sizes.{term_smaller, binding_smaller, alternative_smaller, argument_smaller}
use Rattle.chw_names.proofs.Steps.{meets_none, meets_then, meets_more}
use Rattle.chw_names.proofs.TwiceTerms.{binding_twices, alternative_twices, argument_twices, bindings_meet, alternatives_meet, arguments_meet, terms_meet, letrec_meets, case_meets, apply_meets}
use Rattle.chw_names.proofs.twice_terms.+term.Goals.{each_argument-in-OfTerm+in_ok-term-in-OfTerm, each_argument-in-OfType}
use Rattle.chw_names.proofs.twice_terms.+term.Goals as goal

pub term-returns-in_ok-each_binding-in-LetRec : goal.term-returns-in_ok-each_binding-in-LetRec
term-returns-in_ok-each_binding-in-LetRec t c =
    let bs = c.as_slice-bound.result.now in
    let e = c.deref-in-LetRec.result.now in
    let whole : term_letrec (bindings_of bs) e ≡ c.args.tree.now = rw (c.as_slice-bound.ensures.value, c.deref-in-LetRec.ensures) (ap term_of (sym c.in-LetRec.is) ∙ c.tree.view_is) in
    on_ok_weaker c.term-in-LetRec.result (letrec_meets bs e whole c.in_ok-bindings-in-LetRec.ensures c.in_ok-each_binding-in-LetRec.ensures) c.term-in-LetRec.ensures

pub term-returns-in_ok-term-in-Case : goal.term-returns-in_ok-term-in-Case
term-returns-in_ok-term-in-Case t c =
    let alts = c.as_slice-cases.result.now in
    let e = c.deref-in-Case.result.now in
    let whole : term_case e (alternatives_of alts) ≡ c.args.tree.now = rw (c.deref-in-Case.ensures, c.as_slice-cases.ensures.value) (ap term_of (sym c.in-Case.is) ∙ c.tree.view_is) in
    on_ok_weaker c.each_alternative.result (case_meets e alts whole c.in_ok-alternatives-in-Case.ensures c.in_ok-term-in-Case.ensures) c.each_alternative.ensures

pub term-returns-in_ok-term-in-Apply : goal.term-returns-in_ok-term-in-Apply
term-returns-in_ok-term-in-Apply t c =
    let args = c.as_slice.result.now in
    let e = c.deref-in-Apply.result.now in
    let whole : term_apply e (arguments_of args) ≡ c.args.tree.now = rw (c.deref-in-Apply.ensures, c.as_slice.ensures.value) (ap term_of (sym c.in-Apply.is) ∙ c.tree.view_is) in
    on_ok_weaker c.each_argument.result (apply_meets e args whole c.in_ok-term-in-Apply.ensures) c.each_argument.ensures

pub each_binding-term-requires : goal.each_binding-term-requires
each_binding-term-requires t c =
    (omega (arith, c.decreases, binding_smaller c.args.bindings.now c.loop-binding.binding-index c.binding-item.result _ c.loop-binding-test.true c.binding-item.is), tt)

pub each_binding-loop-binding-preserved : goal.each_binding-loop-binding-preserved
each_binding-loop-binding-preserved t c =
    meets_more binding_twices c.args.bindings.now c.loop-binding.binding-index c.binding-item.result c.loop-binding-test.true c.binding-item.is c.loop-binding.invariant c.in_ok-term.ensures

pub each_binding-returns : goal.each_binding-returns
each_binding-returns t c = bindings_meet c.args.bindings.now c.loop-binding.binding-index (omega (arith, c.loop-binding-test.false)) c.loop-binding.invariant

pub each_alternative-term-requires : goal.each_alternative-term-requires
each_alternative-term-requires t c =
    (omega (arith, c.decreases, alternative_smaller c.args.alternatives.now c.loop-alternative.alternative-index c.alternative-item.result _ c.loop-alternative-test.true c.alternative-item.is), tt)

pub each_alternative-loop-alternative-preserved : goal.each_alternative-loop-alternative-preserved
each_alternative-loop-alternative-preserved t c =
    let a = c.alternative-item.result in
    meets_more alternative_twices c.args.alternatives.now c.loop-alternative.alternative-index c.alternative-item.result c.loop-alternative-test.true c.alternative-item.is c.loop-alternative.invariant
    (meets_then (seconds [] (pattern_words a.pattern)) (term_twices a.term) c.in_ok-pattern.ensures c.in_ok-term.ensures)

pub each_alternative-returns : goal.each_alternative-returns
each_alternative-returns t c = alternatives_meet c.args.alternatives.now c.loop-alternative.alternative-index (omega (arith, c.loop-alternative-test.false)) c.loop-alternative.invariant

pub each_argument-term-requires : goal.each_argument-term-requires
each_argument-term-requires t c =
    (omega (arith, c.decreases, argument_smaller c.args.arguments.now c.loop-argument.argument-index c.in-OfTerm.argument c.argument-item.result _ c.loop-argument-test.true c.argument-item.is c.in-OfTerm.is), tt)

pub each_argument-loop-argument-preserved : goal.each_argument-loop-argument-preserved
each_argument-loop-argument-preserved t c =
    let item : Meets c.loop-argument.least c.match-argument.least (argument_twices c.argument-item.result) =
    elim c.match-argument.branch [
      | each_argument-in-OfTerm+in_ok-term-in-OfTerm w ↦ rw (w.in-OfTerm.is, w.least-is) w.in_ok-term-in-OfTerm.ensures
      | each_argument-in-OfType w ↦ rw (w.in-OfType.is, w.least-is) meets_none
    ] in
    meets_more argument_twices c.args.arguments.now c.loop-argument.argument-index c.argument-item.result c.loop-argument-test.true c.argument-item.is c.loop-argument.invariant item

pub each_argument-returns : goal.each_argument-returns
each_argument-returns t c = arguments_meet c.args.arguments.now c.loop-argument.argument-index (omega (arith, c.loop-argument-test.false)) c.loop-argument.invariant

pub each_element-term-requires : goal.each_element-term-requires
each_element-term-requires t c =
    (omega (arith, c.decreases, term_smaller c.args.elements.now c.loop-element.element-index c.element-item.result _ c.loop-element-test.true c.element-item.is), tt)

pub each_element-loop-element-preserved : goal.each_element-loop-element-preserved
each_element-loop-element-preserved t c =
    meets_more term_twices c.args.elements.now c.loop-element.element-index c.element-item.result c.loop-element-test.true c.element-item.is c.loop-element.invariant c.in_ok-term.ensures

pub each_element-returns : goal.each_element-returns
each_element-returns t c = terms_meet c.args.elements.now c.loop-element.element-index (omega (arith, c.loop-element-test.false)) c.loop-element.invariant
