use Rattle.std.proofs.Common.{sym, ◌∙◌}
use Rattle.std.specs.Prelude.{reverse}
use Rattle.chw_typing.specs.Scopes.{setting_in}
use Rattle.term_spines.proofs.Taking.{type_unkinded, type_of_other, type_told}
use Rattle.term_spines.proofs.spines.apply_type.Goals as goal

pub returns-in_default : goal.returns-in_default
returns-in_default c j k of u h e d same l = c.in_default.ensures j of (c.ty.ensures ∙ e)

pub returns-in_default-kind_in : goal.returns-in_default-kind_in
returns-in_default-kind_in c = type_unkinded (setting_in c.args.scene.now) (reverse c.args.kinds.now) c.args.fun.ty c.args.arg.now c.in_default-kind_in.ensures

pub returns-then-not-same_kind : goal.returns-then-not-same_kind
returns-then-not-same_kind c =
    type_of_other (setting_in c.args.scene.now) (reverse c.args.kinds.now) c.args.fun.ty c.args.arg.now c.in-Some.of.now c.in-Some-kind_in.of_arg c.in-Some.kind
    (sym c.ty.ensures ∙ c.in-Some.ensures) c.in-Some-kind_in.ensures (sym c.same_kind.ensures ∙ c.if-not-same_kind.true)

pub returns : goal.returns
returns c =
    type_told (setting_in c.args.scene.now) (reverse c.args.kinds.now) c.args.fun.ty c.args.arg.now c.in-Some.of.now c.in_ok-ty.ty c.in-Some-kind_in.of_arg c.in-Some.kind c.in_ok-settled.field-0
    (sym c.ty.ensures ∙ c.in-Some.ensures) c.in-Some-kind_in.ensures (sym c.same_kind.ensures ∙ c.if-not-same_kind.false) c.in_ok-ty.ensures.is c.in_ok-settled.ensures
