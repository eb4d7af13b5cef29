use Rattle.std.proofs.Common.{List, subst}
use Rattle.std.specs.Bool.{Decides}
use Rattle.chw_types.specs.declared.kind.Kind.{Kind}
use Rattle.chw_typing.specs.Programs.{setting_of}
use Rattle.chw_check.specs.FitParts.{FieldsFit}
use Rattle.chw_check.proofs.EachItem.{decided, refused, item_at, before_next, before_all, not_each}
use Rattle.chw_check.proofs.PartsFit.{data_of_fields, fields_of_data}
use Rattle.chw_check.proofs.kinds.fields.data_fits.Goals as goal

pub loop-con-preserved : goal.loop-con-preserved
loop-con-preserved c =
    let s = setting_of c.args.program.now in
    let it = c.args.it.now in
    let l = c.loop-con in
    let here = item_at c.as_slice-cons.result.now it.cons l.con-index c.con-item.result _ c.as_slice-cons.ensures c.loop-con-test.true c.con-item.is in
    let told = subst (λ (params : List Kind). Decides c.fields_fit.result (FieldsFit s params c.con-item.result)) c.as_slice-params.ensures c.fields_fit.ensures in
    before_next (FieldsFit s it.params) it.cons l.con-index c.con-item.result here l.invariant (told.0 c.if-not-fields_fit.false)

pub returns-then-not-fields_fit : goal.returns-then-not-fields_fit
returns-then-not-fields_fit c =
    let s = setting_of c.args.program.now in
    let it = c.args.it.now in
    let l = c.loop-con in
    let here = item_at c.as_slice-cons.result.now it.cons l.con-index c.con-item.result _ c.as_slice-cons.ensures c.loop-con-test.true c.con-item.is in
    let told = subst (λ (params : List Kind). Decides c.fields_fit.result (FieldsFit s params c.con-item.result)) c.as_slice-params.ensures c.fields_fit.ensures in
    refused (λ h. not_each (FieldsFit s it.params) it.cons l.con-index c.con-item.result c.fields_fit.result here told c.if-not-fields_fit.true (fields_of_data s it h))

pub returns : goal.returns
returns c =
    let s = setting_of c.args.program.now in
    let it = c.args.it.now in
    decided (data_of_fields s it (before_all (FieldsFit s it.params) c.as_slice-cons.result.now it.cons c.loop-con.con-index c.as_slice-cons.ensures c.loop-con-test.false c.loop-con.invariant))
