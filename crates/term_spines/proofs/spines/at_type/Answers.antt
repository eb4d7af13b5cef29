use Rattle.std.proofs.Common.{subst}
use Rattle.std.specs.Prelude.{reverse}
use Rattle.chw_types.specs.TypeTree.{TypeTree}
use Rattle.chw_typing.specs.Scopes.{setting_in}
use Rattle.term_spines.specs.Forms.{TakesType, TakesTypeNot}
use Rattle.term_spines.specs.Spines.{CanWait, AtType}
use Rattle.term_spines.proofs.Waiting.{started_told}
use Rattle.term_spines.proofs.spines.at_type.Goals as goal

pub wait-requires : goal.wait-requires
wait-requires c = subst (λ (t : TypeTree). CanWait t c.args.arg.now) c.ty.ensures (c.can_wait.ensures c.if-can_wait.true)

pub returns-clause-is : goal.returns-clause-is
returns-clause-is c h =
    let s = setting_in c.args.scene.now in
    let kinds = reverse c.args.kinds.now in
    let a = c.args.arg.now in
    let told = started_told (TakesTypeNot s kinds c.in_ok-fun.fun.ty a) (TakesType s kinds c.in_ok-fun.fun.ty a) c.in_ok-apply_type.field-0 c.started_again.result c.started_again.ensures.is c.in_ok-apply_type.ensures in
    subst (λ f. AtType s kinds f a c.started_again.result) c.in_ok-fun.ensures (λ _. told) h
