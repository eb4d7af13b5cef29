use Rattle.std.proofs.Common.{◌≡◌, true, false, ◌||◌, length, ap, ◌∙◌, sym, arith}
use Rattle.std.proofs.lemmas.Bool.{or_from, or_left, or_right}
use Rattle.chw_grammar.specs.TermTree.{term_letrec, term_case, term_apply, term_vec}
use Rattle.chw_grammar.specs.TermView.{terms_of, bindings_of, alternatives_of, arguments_of, term_of}
use Rattle.chw_limits.specs.Parts.{type_has, term_has}
use Rattle.chw_limits.specs.Sought.{tests_of}
use Rattle.chw_limits.proofs.Lists.{binding_has, alternative_has, argument_has, found, none_of_all, letrec_is, case_is, apply_is, vec_early, vec_is}
use Rattle.chw_limits.proofs.terms.+term_has.Goals.{then-type_has-2-via-then-type_has-2, then-type_has-2-via-else-type_has-2+then-term_has, then-pattern_has-via-then-pattern_has, then-pattern_has-via-else-pattern_has+then-term_has-3, in-OfTerm, in-OfType, then-vector-via-then-vector, then-vector-via-else-vector+then-type_has-3}
use Rattle.chw_limits.proofs.terms.+term_has.Goals as goal

pub returns-then-type_has-2 : goal.returns-then-type_has-2
returns-then-type_has-2 t c =
    let tests = tests_of c.args.sought in
    let bs = c.deref-binding-items.result.now in
    let whole : term_letrec (bindings_of bs) c.in-LetRec.body.value ≡ c.args.term.now = rw c.deref-binding-items.ensures.value (ap term_of (sym c.in-LetRec.is) ∙ c.term.view_is) in
    let has : binding_has tests c.binding-item.result ≡ true =
    elim c.then-type_has-2.branch [
      | then-type_has-2-via-then-type_has-2 w ↦ or_left _ _ (sym c.type_has-in-loop-binding.ensures ∙ w.if-type_has-2.true)
      | then-type_has-2-via-else-type_has-2+then-term_has w ↦ or_right _ _ (sym w.term_has-else-type_has-2.ensures ∙ w.if-term_has.true)
    ] in
    letrec_is tests bs c.in-LetRec.body.value true whole (found (binding_has tests) bs c.loop-binding.binding-index c.binding-item.result c.loop-binding-test.true c.binding-item.is has)

pub returns-after-loop-binding : goal.returns-after-loop-binding
returns-after-loop-binding t c =
    let tests = tests_of c.args.sought in
    let bs = c.deref-binding-items.result.now in
    let whole : term_letrec (bindings_of bs) c.deref-in-LetRec.result.now ≡ c.args.term.now = rw (c.deref-binding-items.ensures.value, c.deref-in-LetRec.ensures) (ap term_of (sym c.in-LetRec.is) ∙ c.term.view_is) in
    c.term_has-in-LetRec.ensures
    ∙ letrec_is tests bs c.deref-in-LetRec.result.now false whole (none_of_all (binding_has tests) bs c.loop-binding.binding-index (omega (arith, c.loop-binding-test.false)) c.loop-binding.invariant)

pub returns-then-pattern_has : goal.returns-then-pattern_has
returns-then-pattern_has t c =
    let tests = tests_of c.args.sought in
    let alts = c.deref-alternative-items.result.now in
    let whole : term_case c.deref-in-Case.result.now (alternatives_of alts) ≡ c.args.term.now = rw (c.deref-in-Case.ensures, c.deref-alternative-items.ensures.value) (ap term_of (sym c.in-Case.is) ∙ c.term.view_is) in
    let has : alternative_has tests c.alternative-item.result ≡ true =
    elim c.then-pattern_has.branch [
      | then-pattern_has-via-then-pattern_has w ↦ or_left _ _ (sym c.pattern_has.ensures ∙ w.if-pattern_has.true)
      | then-pattern_has-via-else-pattern_has+then-term_has-3 w ↦ or_right _ _ (sym w.term_has-else-pattern_has.ensures ∙ w.if-term_has-3.true)
    ] in
    case_is tests c.deref-in-Case.result.now alts true whole (sym c.term_has-in-Case.ensures ∙ c.if-term_has-2.false)
    (found (alternative_has tests) alts c.loop-alternative.alternative-index c.alternative-item.result c.loop-alternative-test.true c.alternative-item.is has)

pub returns-after-loop-alternative : goal.returns-after-loop-alternative
returns-after-loop-alternative t c =
    let tests = tests_of c.args.sought in
    let alts = c.deref-alternative-items.result.now in
    let whole : term_case c.deref-in-Case.result.now (alternatives_of alts) ≡ c.args.term.now = rw (c.deref-in-Case.ensures, c.deref-alternative-items.ensures.value) (ap term_of (sym c.in-Case.is) ∙ c.term.view_is) in
    case_is tests c.deref-in-Case.result.now alts false whole (sym c.term_has-in-Case.ensures ∙ c.if-term_has-2.false)
    (none_of_all (alternative_has tests) alts c.loop-alternative.alternative-index (omega (arith, c.loop-alternative-test.false)) c.loop-alternative.invariant)

pub returns-then-found : goal.returns-then-found
returns-then-found t c =
    let tests = tests_of c.args.sought in
    let args = c.deref-argument-items.result.now in
    let whole : term_apply c.deref-in-Apply.result.now (arguments_of args) ≡ c.args.term.now = rw (c.deref-in-Apply.ensures, c.deref-argument-items.ensures.value) (ap term_of (sym c.in-Apply.is) ∙ c.term.view_is) in
    let has : argument_has tests c.argument-item.result ≡ true =
    elim c.match-argument.branch [
      | in-OfTerm w ↦ rw w.in-OfTerm.is (sym w.term_has-found.ensures ∙ sym w.found-is ∙ c.if-found.true)
      | in-OfType w ↦ rw w.in-OfType.is (sym w.type_has-found.ensures ∙ sym w.found-is ∙ c.if-found.true)
    ] in
    apply_is tests c.deref-in-Apply.result.now args true whole (sym c.term_has-in-Apply.ensures ∙ c.if-term_has-4.false)
    (found (argument_has tests) args c.loop-argument.argument-index c.argument-item.result c.loop-argument-test.true c.argument-item.is has)

pub returns-after-loop-argument : goal.returns-after-loop-argument
returns-after-loop-argument t c =
    let tests = tests_of c.args.sought in
    let args = c.deref-argument-items.result.now in
    let whole : term_apply c.deref-in-Apply.result.now (arguments_of args) ≡ c.args.term.now = rw (c.deref-in-Apply.ensures, c.deref-argument-items.ensures.value) (ap term_of (sym c.in-Apply.is) ∙ c.term.view_is) in
    apply_is tests c.deref-in-Apply.result.now args false whole (sym c.term_has-in-Apply.ensures ∙ c.if-term_has-4.false)
    (none_of_all (argument_has tests) args c.loop-argument.argument-index (omega (arith, c.loop-argument-test.false)) c.loop-argument.invariant)

pub returns-then-vector : goal.returns-then-vector
returns-then-vector t c =
    let tests = tests_of c.args.sought in
    let es = c.in-VecLit.elements.items in
    let whole : term_vec c.in-VecLit.ty (terms_of es) ≡ c.args.term.now = ap term_of (sym c.in-VecLit.is) ∙ c.term.view_is in
    let count : c.len.result ≡ length es = omega (arith, c.in-VecLit.elements.ok.0) in
    let is_long : c.vector.result ≡ tests.vector (length es) = c.vector.ensures ∙ ap tests.vector count in
    let has : (tests.vector (length es) || type_has tests c.in-VecLit.ty) ≡ true =
    elim c.then-vector.branch [
      | then-vector-via-then-vector w ↦ or_left _ _ (sym is_long ∙ w.if-vector.true)
      | then-vector-via-else-vector+then-type_has-3 w ↦ or_right _ _ (sym w.type_has-else-vector.ensures ∙ w.if-type_has-3.true)
    ] in
    vec_early tests c.in-VecLit.ty es whole has

pub returns-then-term_has-5 : goal.returns-then-term_has-5
returns-then-term_has-5 t c =
    let tests = tests_of c.args.sought in
    let es = c.deref-element-items.result.now in
    let whole : term_vec c.in-VecLit.ty (terms_of es) ≡ c.args.term.now = rw c.deref-element-items.ensures.value (ap term_of (sym c.in-VecLit.is) ∙ c.term.view_is) in
    let count : c.len.result ≡ length es = omega (arith, c.in-VecLit.elements.ok.0, ap length c.deref-element-items.ensures.value) in
    let is_short : tests.vector (length es) ≡ false = sym (c.vector.ensures ∙ ap tests.vector count) ∙ c.if-vector.false in
    vec_is tests c.in-VecLit.ty es true whole (or_from _ _ is_short (sym c.type_has-else-vector.ensures ∙ c.if-type_has-3.false))
    (found (term_has tests) es c.loop-element.element-index c.element-item.result c.loop-element-test.true c.element-item.is (sym c.term_has-in-loop-element.ensures ∙ c.if-term_has-5.true))

pub returns-after-loop-element : goal.returns-after-loop-element
returns-after-loop-element t c =
    let tests = tests_of c.args.sought in
    let es = c.deref-element-items.result.now in
    let whole : term_vec c.in-VecLit.ty (terms_of es) ≡ c.args.term.now = rw c.deref-element-items.ensures.value (ap term_of (sym c.in-VecLit.is) ∙ c.term.view_is) in
    let count : c.len.result ≡ length es = omega (arith, c.in-VecLit.elements.ok.0, ap length c.deref-element-items.ensures.value) in
    let is_short : tests.vector (length es) ≡ false = sym (c.vector.ensures ∙ ap tests.vector count) ∙ c.if-vector.false in
    vec_is tests c.in-VecLit.ty es false whole (or_from _ _ is_short (sym c.type_has-else-vector.ensures ∙ c.if-type_has-3.false))
    (none_of_all (term_has tests) es c.loop-element.element-index (omega (arith, c.loop-element-test.false)) c.loop-element.invariant)
