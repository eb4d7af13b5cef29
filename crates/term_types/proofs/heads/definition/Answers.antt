use Rattle.std.proofs.Common.{◌≡◌, Some, None, length, refl, sym, subst}
use Rattle.std.specs.Prelude.{reverse}
use Rattle.std.specs.List.{slice_get}
use Rattle.std.proofs.lemmas.Bool.{ltb-true, ltb-false}
use Rattle.std.proofs.lemmas.Option.{slice_get_read, slice_get_past}
use Rattle.chw_terms.specs.declared.program.Def.{Def}
use Rattle.chw_typing.specs.Scopes.{setting_in}
use Rattle.term_types.proofs.Plain.{global_missing, missing_in_map}
use Rattle.term_types.proofs.HeadsSigned.{global_signed, global_unsigned}
use Rattle.term_types.proofs.heads.definition.Goals as goal

pub returns-in_default : goal.returns-in_default
returns-in_default c =
    let n = c.args.at.number in
    let items = c.args.scene.now.program.now.defs in
    let read : slice_get items n ≡ None = subst (λ ds. slice_get ds n ≡ None) c.as_slice.ensures (slice_get_past c.as_slice.result.now n (ltb-false _ _ (sym c.in_default.ensures.lookup.0))) in
    global_missing n (missing_in_map (λ (d : Def). d.ty) items n read)

pub returns-in_default-definition_kind : goal.returns-in_default-definition_kind
returns-in_default-definition_kind c =
    let n = c.args.at.number in
    let items = c.args.scene.now.program.now.defs in
    let read : slice_get items n ≡ Some c.in-Some.it.now = subst (λ ds. slice_get ds n ≡ Some c.in-Some.it.now) c.as_slice.ensures (slice_get_read c.as_slice.result.now (length c.as_slice.result.now) n c.in-Some.it.now refl (ltb-true _ _ (sym c.in-Some.ensures.lookup.0)) c.in-Some.ensures.lookup.1) in
    global_unsigned (setting_in c.args.scene.now) (reverse c.args.kinds.now) c.args.vars.now.vars items c.args.signature.now.kinds.items n c.in-Some.it.now c.requires.ready.0 refl c.requires.table.kinds read c.in_default-definition_kind.ensures.none

pub returns : goal.returns
returns c =
    let n = c.args.at.number in
    let items = c.args.scene.now.program.now.defs in
    let read : slice_get items n ≡ Some c.in-Some.it.now = subst (λ ds. slice_get ds n ≡ Some c.in-Some.it.now) c.as_slice.ensures (slice_get_read c.as_slice.result.now (length c.as_slice.result.now) n c.in-Some.it.now refl (ltb-true _ _ (sym c.in-Some.ensures.lookup.0)) c.in-Some.ensures.lookup.1) in
    global_signed (setting_in c.args.scene.now) (reverse c.args.kinds.now) c.args.vars.now.vars items c.args.signature.now.kinds.items n c.in-Some.it.now _ refl c.requires.table.kinds read c.in-Some-definition_kind.ensures.some c.written.ensures
