use Rattle.std.proofs.Common.{sym, subst, length}
use Rattle.std.proofs.lemmas.Option.{slice_get_within}
use Rattle.chw_terms.specs.declared.rule.Rule.TheVariants.{Anf}
use Rattle.chw_terms.specs.TermTree.{vec_lit}
use Rattle.chw_terms.specs.TermView.{terms_of}
use Rattle.rewriting.specs.Origins.{origins_of}
use Rattle.rewriting.specs.Spots.{spot_of}
use Rattle.rewriting.specs.Operands.{OfOperands}
use Rattle.seen_types.proofs.Matched.{of_none, not_true}
use Rattle.work_operands.specs.Firsts.{AnswersFirstElement, NoElementBefore, IsFirstElement}
use Rattle.work_operands.proofs.CasesAndVectors.{element_named, elements_stay}
use Rattle.work_operands.proofs.Typed.{elements_typed}
use Rattle.work_operands.proofs.parts.name_element.Goals as goal

pub returns-then-not-has_lets : goal.returns-then-not-has_lets
returns-then-not-has_lets c =
    elements_stay c.args.ty.now c.args.elements.now
    (λ m.
    absurd (not_true c.has_lets.result c.if-not-has_lets.true (c.has_lets.ensures.1 m)))

pub first_element-requires-clause-typed : goal.first_element-requires-clause-typed
first_element-requires-clause-typed c =
    elements_typed (origins_of c.args.scene.now) (spot_of c.args.place.now) c.args.ty.now
    c.args.elements.now c.requires.typed

pub returns-in_default : goal.returns-in_default
returns-in_default c =
    let o = origins_of c.args.scene.now in
    let at = spot_of c.args.place.now in
    let es = c.args.elements.now in
    elements_stay c.args.ty.now es
    (λ m. of_none (NoElementBefore o at es (length es))
    (λ it. IsFirstElement o at es it.number it.ty it.part.now) c.in_ok-named.field-0
    c.in_default.not-Some c.in_ok-named.ensures)

pub with_element_named-requires : goal.with_element_named-requires
with_element_named-requires c =
    let o = origins_of c.args.scene.now in
    let at = spot_of c.args.place.now in
    let es = c.args.elements.now in
    let it = c.in-Some.named in
    let first : IsFirstElement o at es it.number it.ty it.part.now =
    subst (AnswersFirstElement o at es) c.in-Some.is c.in_ok-named.ensures in
    slice_get_within es it.number it.part.now first.is

pub returns : goal.returns
returns c =
    let o = origins_of c.args.scene.now in
    let at = spot_of c.args.place.now in
    let t = c.args.ty.now in
    let es = c.args.elements.now in
    let it = c.in-Some.named in
    let first : IsFirstElement o at es it.number it.ty it.part.now =
    subst (AnswersFirstElement o at es) c.in-Some.is c.in_ok-named.ensures in
    subst (OfOperands o at Anf (vec_lit t (terms_of es))) (sym c.in_ok-with_element_named.ensures)
    (element_named t es it.number it.ty it.part.now
    (c.has_lets.ensures.0 c.if-not-has_lets.false) first)
