use Rattle.std.proofs.Common.{◌≡◌, ap, sym, arith}
use Rattle.chw_grammar.specs.TermTree.{term_lambda, term_type_lambda, term_letrec, term_case, term_apply, term_vec}
use Rattle.chw_grammar.specs.TermView.{terms_of, bindings_of, alternatives_of, arguments_of, term_of}
use Rattle.chw_text.proofs.TermForms.{term_puts, lambda_puts, type_lambda_puts, binding_put, binding_puts, letrec_puts, alternative_put, alternative_puts, case_puts, argument_puts, apply_puts, element_puts, vec_puts}
use Rattle.chw_text.proofs.terms.+put_term.Goals as goal

pub put_term-returns : goal.put_term-returns
put_term-returns t c =
    term_puts c.args.inner c.term.view_is c.closes-closed.ensures c.in_ok-put_open.ensures c.in_ok-put_bare.ensures c.in_ok-put_close.ensures

pub put_bare-returns-in_ok-put_term-in-Lambda : goal.put_bare-returns-in_ok-put_term-in-Lambda
put_bare-returns-in_ok-put_term-in-Lambda t c =
    let whole : term_lambda c.in-Lambda.name c.in-Lambda.ty c.deref.result.now ≡ term_of c.args.node.now = rw c.deref.ensures (ap term_of (sym c.in-Lambda.is)) in
    lambda_puts whole c.in_ok-put_lambda-in-Lambda.ensures c.in_ok-put_term-in-Lambda.ensures

pub put_bare-returns-in_ok-put_term-in-TypeLambda : goal.put_bare-returns-in_ok-put_term-in-TypeLambda
put_bare-returns-in_ok-put_term-in-TypeLambda t c =
    let whole : term_type_lambda c.in-TypeLambda.name c.in-TypeLambda.kind c.deref-in-TypeLambda.result.now ≡ term_of c.args.node.now = rw c.deref-in-TypeLambda.ensures (ap term_of (sym c.in-TypeLambda.is)) in
    type_lambda_puts whole c.in_ok-put_type_lambda-in-TypeLambda.ensures c.in_ok-put_term-in-TypeLambda.ensures

pub put_binding-returns : goal.put_binding-returns
put_binding-returns t c =
    binding_put c.args.binding.now c.in_ok-put_typed_name.ensures c.in_ok-put_term.ensures c.in_ok-put_sign.ensures

pub put_bare-loop-binding-preserved : goal.put_bare-loop-binding-preserved
put_bare-loop-binding-preserved t c =
    binding_puts c.loop-binding.binding-index c.binding-item.result c.deref-binding-items.result.now c.loop-binding-test.true c.binding-item.is c.loop-binding.invariant c.in_ok-put_binding-in-LetRec.ensures

pub put_bare-returns-in_ok-put_term-in-LetRec : goal.put_bare-returns-in_ok-put_term-in-LetRec
put_bare-returns-in_ok-put_term-in-LetRec t c =
    let whole : term_letrec (bindings_of c.deref-binding-items.result.now) c.deref-in-LetRec.result.now ≡ term_of c.args.node.now = rw (c.deref-binding-items.ensures.value, c.deref-in-LetRec.ensures) (ap term_of (sym c.in-LetRec.is)) in
    letrec_puts c.loop-binding.binding-index c.deref-binding-items.result.now whole c.in_ok-put_signs-in-LetRec.ensures c.loop-binding.invariant (omega (arith, c.loop-binding-test.false)) c.in_ok-put_signs-in-LetRec-2.ensures c.in_ok-put_term-in-LetRec.ensures

pub put_alternative-returns : goal.put_alternative-returns
put_alternative-returns t c =
    alternative_put c.args.alternative.now c.in_ok-put_alternative_head.ensures c.in_ok-put_term.ensures c.in_ok-put_sign.ensures

pub put_bare-loop-alternative-preserved : goal.put_bare-loop-alternative-preserved
put_bare-loop-alternative-preserved t c =
    alternative_puts c.loop-alternative.alternative-index c.alternative-item.result c.deref-alternative-items.result.now c.loop-alternative-test.true c.alternative-item.is c.loop-alternative.invariant c.in_ok-put_alternative-in-Case.ensures

pub put_bare-returns-in_ok-put_sign-in-Case-2 : goal.put_bare-returns-in_ok-put_sign-in-Case-2
put_bare-returns-in_ok-put_sign-in-Case-2 t c =
    let whole : term_case c.deref-in-Case.result.now (alternatives_of c.deref-alternative-items.result.now) ≡ term_of c.args.node.now = rw (c.deref-in-Case.ensures, c.deref-alternative-items.ensures.value) (ap term_of (sym c.in-Case.is)) in
    case_puts c.loop-alternative.alternative-index c.deref-alternative-items.result.now whole c.in_ok-put_sign-in-Case.ensures c.in_ok-put_term-in-Case.ensures c.in_ok-put_signs-in-Case.ensures c.loop-alternative.invariant (omega (arith, c.loop-alternative-test.false)) c.in_ok-put_sign-in-Case-2.ensures

pub put_bare-loop-argument-preserved : goal.put_bare-loop-argument-preserved
put_bare-loop-argument-preserved t c =
    argument_puts c.loop-argument.argument-index c.argument-item.result c.deref-argument-items.result.now c.loop-argument-test.true c.argument-item.is c.loop-argument.invariant c.in_ok-put_argument-in-Apply.ensures

pub put_bare-returns-after-loop-argument : goal.put_bare-returns-after-loop-argument
put_bare-returns-after-loop-argument t c =
    let whole : term_apply c.deref-in-Apply.result.now (arguments_of c.deref-argument-items.result.now) ≡ term_of c.args.node.now = rw (c.deref-in-Apply.ensures, c.deref-argument-items.ensures.value) (ap term_of (sym c.in-Apply.is)) in
    apply_puts c.loop-argument.argument-index c.deref-argument-items.result.now whole c.in_ok-put_term-in-Apply.ensures c.loop-argument.invariant (omega (arith, c.loop-argument-test.false))

pub put_bare-loop-i-preserved : goal.put_bare-loop-i-preserved
put_bare-loop-i-preserved t c =
    element_puts c.loop-i.i c.element-item.result c.deref-element-items.result.now c.loop-i-test.true c.element-item.is c.loop-i.invariant c.in_ok-put_before-in-VecLit.ensures c.in_ok-put_term-in-VecLit.ensures

pub put_bare-returns-in_ok-put_sign-in-VecLit : goal.put_bare-returns-in_ok-put_sign-in-VecLit
put_bare-returns-in_ok-put_sign-in-VecLit t c =
    let whole : term_vec c.in-VecLit.ty (terms_of c.deref-element-items.result.now) ≡ term_of c.args.node.now = rw c.deref-element-items.ensures.value (ap term_of (sym c.in-VecLit.is)) in
    vec_puts c.loop-i.i c.deref-element-items.result.now whole c.in_ok-put_vec-in-VecLit.ensures c.loop-i.invariant (omega (arith, c.loop-i-test.false)) c.in_ok-put_sign-in-VecLit.ensures
