use Rattle.std.proofs.Common.{◌≡◌, ◌↔◌, IsTrue, None, ap, ◌∙◌, refl, sym, subst}
use Rattle.std.specs.Prelude.{reverse}
use Rattle.chw_types.specs.Arguments.{given}
use Rattle.chw_types.specs.SameTypes.{SameTypes}
use Rattle.chw_types.specs.TypeMoves.{sub}
use Rattle.chw_types.specs.TypeTree.{TypeTree}
use Rattle.seen_types.specs.NumberOf.{IsNumberOf}
use Rattle.term_spines.specs.Spines.{put_for}
use Rattle.seen_types.proofs.Matched.{not_true}
use Rattle.term_spines.proofs.Waiting.{spine_takes, spine_takes_not}
use Rattle.term_spines.proofs.spines.take.Goals as goal

pub same_numbered-requires : goal.same_numbered-requires
same_numbered-requires c =
    let spine = c.args.spine in
    let ts = c.args.types.now in
    let from = c.in-Some.from in
    let parts = c.part_numbers-of_from.ensures from c.in-Some.to (subst (IsNumberOf ts spine.number) c.in-Some.ensures c.requires.spine) in
    let filled = c.filled_number-of_from.ensures ts from parts.0 in
    let is : c.ty.result.now ≡ sub from (put_for spine) = c.ty.ensures ∙ c.in_ok-from.ensures ∙ ap (λ ts. sub from (given (reverse ts))) c.as_slice.ensures.value in
    let at = ap (λ ts. sub from (given (reverse ts))) c.as_slice-2.ensures.value ∙ sym is in
    (ts, subst (IsNumberOf ts c.filled_number-of_from.result) at filled, subst (IsNumberOf ts c.args.number) (sym c.ty-2.ensures) c.requires.arg)

pub returns-then-not-branch-clause-is : goal.returns-then-not-branch-clause-is
returns-then-not-branch-clause-is c =
    let spine = c.args.spine in
    let is : c.ty.result.now ≡ sub c.in-Some.from (put_for spine) = c.ty.ensures ∙ c.in_ok-from.ensures ∙ ap (λ ts. sub c.in-Some.from (given (reverse ts))) c.as_slice.ensures.value in
    let told = subst (λ (t : TypeTree). IsTrue c.in_ok-same_numbered.field-0 ↔ SameTypes t c.args.arg.ty) is (subst (λ (u : TypeTree). IsTrue c.in_ok-same_numbered.field-0 ↔ SameTypes c.ty.result.now u) c.ty-2.ensures c.in_ok-same_numbered.ensures) in
    spine_takes_not spine c.in-Some.from c.in-Some.to c.args.arg.ty c.in-Some.ensures
    (λ h. not_true _ c.if-not-branch.true (told.1 h))

pub returns-clause-is : goal.returns-clause-is
returns-clause-is c =
    let spine = c.args.spine in
    let is : c.ty.result.now ≡ sub c.in-Some.from (put_for spine) = c.ty.ensures ∙ c.in_ok-from.ensures ∙ ap (λ ts. sub c.in-Some.from (given (reverse ts))) c.as_slice.ensures.value in
    let told = subst (λ (t : TypeTree). IsTrue c.in_ok-same_numbered.field-0 ↔ SameTypes t c.args.arg.ty) is (subst (λ (u : TypeTree). IsTrue c.in_ok-same_numbered.field-0 ↔ SameTypes c.ty.result.now u) c.ty-2.ensures c.in_ok-same_numbered.ensures) in
    spine_takes spine (record { body = record { ty = c.in-Some.to; kind = spine.body.kind }; number = None; waiting = spine.waiting }) c.in-Some.from c.in-Some.to c.args.arg.ty
    c.in-Some.ensures refl refl refl (told.0 c.if-not-branch.false)

pub returns-clause-numbered : goal.returns-clause-numbered
returns-clause-numbered c =
    let ts = c.args.types.now in
    (c.part_numbers-of_from.ensures c.in-Some.from c.in-Some.to (subst (IsNumberOf ts c.args.spine.number) c.in-Some.ensures c.requires.spine)).1
