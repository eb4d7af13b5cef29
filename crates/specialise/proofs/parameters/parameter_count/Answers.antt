use Rattle.std.proofs.Common.{◌≡◌, ◌∙◌, ap, sym, refl, subst, true, false, [], ◌∷◌, ◌++◌}
use Rattle.type_ports.specs.Representable.{Representable}
use Rattle.chw_types.specs.TypeTree.{TypeTree, fun}
use Rattle.chw_types.specs.TypeView.{tree_of}
use Rattle.specialise.proofs.Values.{Passed, none_passed, none_first, passed_one, none_last}
use Rattle.specialise.proofs.Values.{other_form, count_of, next_count}
use Rattle.specialise.proofs.parameters.parameter_count.Goals as goal

pub returns-then-not-branch : goal.returns-then-not-branch
returns-then-not-branch c =
    let datas = c.args.datas.now in
    let a = c.in-Fun.from.value in
    let b = c.in-Fun.to.value in
    let form : c.loop-rest.rest.now ≡ fun a b = sym c.rest.view_is ∙ ap tree_of c.in-Fun.is in
    none_passed datas c.args.ty.now c.loop-rest.rest.now c.loop-rest.invariant.0
    c.loop-rest.invariant.2
    (none_first datas a b c.loop-rest.rest.now form
    (λ r. let no : false ≡ true =
    sym c.if-not-branch.true
    ∙ c.in_ok-representable.ensures.1 (subst (Representable datas) (sym c.deref.ensures) r) in
    absurd cc))

pub loop-rest-preserved : goal.loop-rest-preserved
loop-rest-preserved c =
    let datas = c.args.datas.now in
    let a = c.in-Fun.from.value in
    let b = c.in-Fun.to.value in
    let params = c.loop-rest.invariant.0 in
    let next = params ++ a ∷ [] in
    let form : c.loop-rest.rest.now ≡ fun a b = sym c.rest.view_is ∙ ap tree_of c.in-Fun.is in
    let passed : Passed datas c.args.ty.now next b =
    passed_one datas c.args.ty.now c.loop-rest.rest.now a b params next c.loop-rest.invariant.2 form
    (subst (Representable datas) c.deref.ensures
    (c.in_ok-representable.ensures.0 c.if-not-branch.false)) refl in (
      next,
      next_count a params c.loop-rest.count _ c.loop-rest.invariant.1 c.in_ok-count.ensures,
      subst (Passed datas c.args.ty.now next) (sym c.deref-rest.ensures) passed,
    )

pub returns-then-branch : goal.returns-then-branch
returns-then-branch c =
    count_of c.args.datas.now c.args.ty.now c.loop-rest.rest.now c.loop-rest.invariant.0
    c.loop-rest.count c.loop-rest.invariant.2 (c.in_ok-representable-2.ensures.0 c.if-branch.true)
    c.loop-rest.invariant.1

pub returns-else-branch : goal.returns-else-branch
returns-else-branch c =
    let datas = c.args.datas.now in
    let rest = c.loop-rest.rest.now in
    let other = subst (λ t. (a b : TypeTree) → t ≡ fun a b → ⊥) c.rest.view_is
    (other_form c.rest.inside.node c.in_default.not-Fun) in
    none_passed datas c.args.ty.now rest c.loop-rest.invariant.0 c.loop-rest.invariant.2
    (none_last datas rest other
    (λ r. let no : false ≡ true =
    sym c.if-branch.false ∙ c.in_ok-representable-2.ensures.1 r in absurd cc))

pub loop-rest-init : goal.loop-rest-init
loop-rest-init c = ([], refl, record { is = refl; takes = tt })
