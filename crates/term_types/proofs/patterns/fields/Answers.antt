use Rattle.std.proofs.Common.{◌≡◌, Some, None, length, refl, sym, ap, ◌∙◌, subst}
use Rattle.std.specs.Prelude.{MatchOption, reverse}
use Rattle.term_frames.specs.declared.fields.Bound.{Bound}
use Rattle.term_frames.specs.declared.fields.Fields.{Fields}
use Rattle.chw_terms.specs.Constructors.{con_at}
use Rattle.con_places.specs.Constructing.{constructor_of}
use Rattle.term_types.specs.Binding.{AreBoundSettled, NoneSettled}
use Rattle.term_frames.specs.FieldTypes.{args_seen}
use Rattle.seen_types.specs.Keeping.{KeepKinds}
use Rattle.chw_typing.specs.Scopes.{setting_in}
use Rattle.term_types.proofs.Bound.{con_missing, con_other, con_names, fields_told}
use Rattle.term_types.proofs.PutFields.{con_put}
use Rattle.term_types.proofs.patterns.fields.Goals as goal

pub returns-in_default : goal.returns-in_default
returns-in_default c =
    con_missing (setting_in c.args.scene.now) (reverse c.args.kinds.now) c.args.of.now c.args.at c.args.names
    (subst (λ ds. con_at ds c.args.at.number ≡ None) c.requires.table.constructors c.in_default.ensures)

pub returns-in_default-arguments_seen : goal.returns-in_default-arguments_seen
returns-in_default-arguments_seen c =
    let it = c.in-Some.con in
    let at = subst (λ ds. con_at ds c.args.at.number ≡ Some (constructor_of it)) c.requires.table.constructors c.in-Some.ensures.is in
    con_other (setting_in c.args.scene.now) (reverse c.args.kinds.now) c.args.of.now c.args.at c.args.names (constructor_of it) at c.in_default-arguments_seen.ensures

pub returns-then-fields-names : goal.returns-then-fields-names
returns-then-fields-names c =
    let it = c.in-Some.con in
    let at = subst (λ ds. con_at ds c.args.at.number ≡ Some (constructor_of it)) c.requires.table.constructors c.in-Some.ensures.is in
    con_names (setting_in c.args.scene.now) (reverse c.args.kinds.now) c.args.of.now c.args.at c.args.names (constructor_of it) at (λ e. c.if-fields-names.true (ap length c.as_slice-fields.ensures ∙ e))

pub returns-then-not-keep_kinds : goal.returns-then-not-keep_kinds
returns-then-not-keep_kinds c =
    let s = setting_in c.args.scene.now in
    let kinds = reverse c.args.kinds.now in
    let it = c.in-Some.con in
    let args = args_seen c.in-Some-arguments_seen.args in
    let at = subst (λ ds. con_at ds c.args.at.number ≡ Some (constructor_of it)) c.requires.table.constructors c.in-Some.ensures.is in
    let names = ap length (sym c.as_slice-fields.ensures) ∙ c.if-fields-names.false in
    let settled = subst (λ fs. MatchOption c.in_ok-all_settled.field-0 (NoneSettled s kinds fs args) (λ (b : Bound). AreBoundSettled s kinds fs args b)) c.as_slice-fields.ensures
    (subst (λ args. MatchOption c.in_ok-all_settled.field-0 (NoneSettled s kinds c.as_slice-fields.result.now args) (λ (b : Bound). AreBoundSettled s kinds c.as_slice-fields.result.now args b)) c.types-given.ensures c.in_ok-all_settled.ensures) in
    fields_told s kinds c.args.of.now c.args.at c.args.names (constructor_of it) args c.requires.kinded.0 c.in_ok-all_settled.field-0 c.requires.sound c.requires.kinded.1 at c.in-Some-arguments_seen.ensures names settled

pub returns : goal.returns
returns c =
    let s = setting_in c.args.scene.now in
    let kinds = reverse c.args.kinds.now in
    let it = c.in-Some.con in
    let args = args_seen c.in-Some-arguments_seen.args in
    let at = subst (λ ds. con_at ds c.args.at.number ≡ Some (constructor_of it)) c.requires.table.constructors c.in-Some.ensures.is in
    let names = ap length (sym c.as_slice-fields.ensures) ∙ c.if-fields-names.false in
    let keep = subst (λ fs. KeepKinds fs args) c.as_slice-fields.ensures (subst (KeepKinds c.as_slice-fields.result.now) c.types-given.ensures (c.keep_kinds.ensures c.if-not-keep_kinds.false)) in
    let all : Fields = record { datas = c.as_slice.result; domains = c.as_slice-2.result; params = c.as_slice-3.result; types = c.as_slice-fields.result; args = c.in-Some-arguments_seen.args } in
    con_put s kinds c.args.of.now c.args.at c.args.names (constructor_of it) args c.requires.kinded.0 all c.requires.sound c.requires.kinded.1 at c.in-Some-arguments_seen.ensures names keep
    (record { datas = c.as_slice.ensures; domains = ap length c.as_slice-2.ensures; params = c.as_slice-3.ensures; types = c.as_slice-fields.ensures; put = refl })
