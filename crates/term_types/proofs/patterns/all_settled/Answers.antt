use Rattle.std.proofs.Common.{arith}
use Rattle.std.specs.Prelude.{reverse}
use Rattle.chw_typing.specs.Scopes.{setting_in}
use Rattle.term_spines.specs.Kinding.{LacksKindUpTo, IsSettled}
use Rattle.seen_types.specs.declared.found.Found.{Found}
use Rattle.term_types.proofs.Bound.{settled_more, settled_all, unsettled_at}
use Rattle.seen_types.proofs.Matched.{of_some, is_none}
use Rattle.term_types.proofs.patterns.all_settled.Goals as goal

pub loop-field-preserved : goal.loop-field-preserved
loop-field-preserved c =
    let s = setting_in c.args.scene.now in
    let kinds = reverse c.args.kinds.now in
    let l = c.loop-field in
    let u = c.in_ok-ty.ty in
    let found = c.in-Some.found in
    let each = of_some (LacksKindUpTo s kinds u) (λ (f : Found). IsSettled s kinds u f) c.in_ok-found.field-0 found c.in-Some.is c.in_ok-found.ensures in
    settled_more s kinds c.args.fields.now c.args.args.now l.bound.items c.push.new.self.items l.field-index c.field-item.result _ u found c.loop-field-test.true c.field-item.is c.in_ok-ty.ensures.is each c.in_ok-push-in-Some.ensures.items l.invariant

pub returns-in-None : goal.returns-in-None
returns-in-None c =
    let s = setting_in c.args.scene.now in
    let kinds = reverse c.args.kinds.now in
    let l = c.loop-field in
    let u = c.in_ok-ty.ty in
    let none = is_none (LacksKindUpTo s kinds u) (λ (f : Found). IsSettled s kinds u f) c.in_ok-found.field-0 c.in-None.is c.in_ok-found.ensures in
    unsettled_at s kinds c.args.fields.now c.args.args.now l.field-index c.field-item.result _ u c.loop-field-test.true c.field-item.is c.in_ok-ty.ensures.is none

pub returns : goal.returns
returns c =
    settled_all (setting_in c.args.scene.now) (reverse c.args.kinds.now) c.args.fields.now c.args.args.now c.loop-field.bound.items c.loop-field.field-index (omega (arith, c.loop-field-test.false)) c.loop-field.invariant
