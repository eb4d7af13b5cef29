use Rattle.std.proofs.Common.{Some, None, refl, sym, subst, ◌∙◌, ◌↔◌, IsTrue}
use Rattle.chw_types.specs.SameTypes.{SameTypes}
use Rattle.chw_types.specs.TypeTree.{TypeTree}
use Rattle.term_types.specs.Cases.{IsJoined}
use Rattle.term_types.proofs.Lambdas.{functions_found, functions_none}
use Rattle.seen_types.proofs.Matched.{not_true}
use Rattle.term_types.proofs.alternatives.joined.Goals as goal

pub returns-then-branch : goal.returns-then-branch
returns-then-branch c =
    let told = subst (λ (t : TypeTree). IsTrue c.in_ok-same-in-Some.field-0 ↔ SameTypes t c.args.next.ty) c.ty.ensures (subst (λ (u : TypeTree). IsTrue c.in_ok-same-in-Some.field-0 ↔ SameTypes c.ty.result.now u) c.ty-in-Some.ensures c.in_ok-same-in-Some.ensures) in
    subst (λ g. IsJoined c.args.on.now g c.args.next (Some c.in-Some.first)) (sym c.in-Some.is) (refl, told.0 c.if-branch.true)

pub returns-in-Some : goal.returns-in-Some
returns-in-Some c =
    let told = subst (λ (t : TypeTree). IsTrue c.in_ok-same-in-Some.field-0 ↔ SameTypes t c.args.next.ty) c.ty.ensures (subst (λ (u : TypeTree). IsTrue c.in_ok-same-in-Some.field-0 ↔ SameTypes c.ty.result.now u) c.ty-in-Some.ensures c.in_ok-same-in-Some.ensures) in
    subst (λ g. IsJoined c.args.on.now g c.args.next None) (sym c.in-Some.is) (λ h. not_true _ c.if-branch.false (told.1 h))

pub returns-then-has_functions : goal.returns-then-has_functions
returns-then-has_functions c =
    subst (λ g. IsJoined c.args.on.now g c.args.next (Some c.args.next)) (sym c.in-None.is)
    (refl, functions_found c.args.on.now.kind c.args.next.kind (sym c.has_functions.ensures ∙ c.if-has_functions.true))

pub returns : goal.returns
returns c =
    subst (λ g. IsJoined c.args.on.now g c.args.next None) (sym c.in-None.is)
    (functions_none c.args.on.now.kind c.args.next.kind (sym c.has_functions.ensures ∙ c.if-has_functions.false))
