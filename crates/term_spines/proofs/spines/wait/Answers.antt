use Rattle.std.proofs.Common.{None, [], ◌∷◌, ◌++◌, sym, ap, ◌∙◌, refl, subst}
use Rattle.std.specs.Prelude.{reverse}
use Rattle.chw_types.specs.TypeMoves.{sub, up}
use Rattle.chw_typing.specs.Scopes.{HasKind, setting_in}
use Rattle.term_spines.specs.Spines.{put_for, spine_found}
use Rattle.term_spines.proofs.Taking.{kinds_are, type_of_other}
use Rattle.term_spines.proofs.Waiting.{found_bound, spine_waits}
use Rattle.term_spines.proofs.spines.wait.Goals as goal

pub returns-then-not-same_kind-clause-is : goal.returns-then-not-same_kind-clause-is
returns-then-not-same_kind-clause-is c h =
    let spine = c.args.spine in
    let ty = c.in-Some-into_bound.ty in
    let kind = c.in-Some-into_bound.kind in
    type_of_other (setting_in c.args.scene.now) (reverse c.args.kinds.now) (spine_found spine).ty c.args.arg.now (sub ty (up (put_for spine))) c.in-Some.of_arg kind
    (found_bound spine ty kind c.in-Some-into_bound.ensures) c.in-Some.ensures (sym c.same_kind.ensures ∙ c.if-not-same_kind.true)

pub returns-clause-is : goal.returns-clause-is
returns-clause-is c h =
    let s = setting_in c.args.scene.now in
    let kinds = reverse c.args.kinds.now in
    let spine = c.args.spine in
    let arg = c.args.arg.now in
    let ty = c.in-Some-into_bound.ty in
    let kind = c.in-Some-into_bound.kind in
    let is = kinds_are c.in-Some.of_arg kind (sym c.same_kind.ensures ∙ c.if-not-same_kind.false) in
    spine_waits s kinds spine (record { body = record { ty = ty; kind = spine.body.kind }; number = None; waiting = c.push.new.self }) arg ty kind
    c.in-Some-into_bound.ensures (subst (HasKind s kinds arg) is c.in-Some.ensures) c.requires.small refl refl
    (c.in_ok-push.ensures.items ∙ ap (λ a. spine.waiting.items ++ a ∷ []) c.in_ok-copy.ensures) h
