use Rattle.std.proofs.Common.{refl, subst, ◌↔◌, IsTrue}
use Rattle.chw_types.specs.SameTypes.{SameTypes}
use Rattle.chw_types.specs.TypeTree.{TypeTree}
use Rattle.term_spines.proofs.Taking.{takes_not}
use Rattle.seen_types.proofs.Matched.{not_true}
use Rattle.term_spines.proofs.spines.apply.Goals as goal

pub returns-in_default : goal.returns-in_default
returns-in_default c a b e h = c.in_default.ensures a b e

pub returns-then-not-branch : goal.returns-then-not-branch
returns-then-not-branch c =
    let told = subst (λ (t : TypeTree). IsTrue c.in_ok-same.field-0 ↔ SameTypes t c.args.arg.ty) c.ty.ensures (subst (λ (u : TypeTree). IsTrue c.in_ok-same.field-0 ↔ SameTypes c.ty.result.now u) c.ty-2.ensures c.in_ok-same.ensures) in
    takes_not c.args.fun.ty c.args.arg.ty c.in-Some.from c.in-Some.to c.in-Some.ensures
    (λ h. not_true _ c.if-not-branch.true (told.1 h))

pub returns : goal.returns
returns c =
    let told = subst (λ (t : TypeTree). IsTrue c.in_ok-same.field-0 ↔ SameTypes t c.args.arg.ty) c.ty.ensures (subst (λ (u : TypeTree). IsTrue c.in_ok-same.field-0 ↔ SameTypes c.ty.result.now u) c.ty-2.ensures c.in_ok-same.ensures) in
    record { from = c.in-Some.from; is = c.in-Some.ensures; same = told.0 c.if-not-branch.false; kind = refl }
