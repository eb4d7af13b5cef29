use Rattle.std.proofs.Common.{reverse}
use Rattle.chw_types.specs.TypeTree.{TypeTree}
use Rattle.chw_typing.specs.Programs.{setting_of}
use Rattle.chw_typing.specs.Scopes.{IsTermType}
use Rattle.chw_check.proofs.EachItem.{decided, refused, item_at, before_next, before_all, not_each}
use Rattle.chw_check.proofs.kinds.fields.fields_fit.Goals as goal

pub loop-field-preserved : goal.loop-field-preserved
loop-field-preserved c =
    let P = λ (t : TypeTree). IsTermType (setting_of c.args.program.now) (reverse c.args.params.now) t in
    let l = c.loop-field in
    let here = item_at c.as_slice-fields.result.now c.args.con.now.fields l.field-index c.field-item.result _ c.as_slice-fields.ensures c.loop-field-test.true c.field-item.is in
    before_next P c.args.con.now.fields l.field-index c.field-item.result here l.invariant (c.is_term_type.ensures.0 c.if-not-is_term_type.false)

pub returns-then-not-is_term_type : goal.returns-then-not-is_term_type
returns-then-not-is_term_type c =
    let P = λ (t : TypeTree). IsTermType (setting_of c.args.program.now) (reverse c.args.params.now) t in
    let l = c.loop-field in
    let here = item_at c.as_slice-fields.result.now c.args.con.now.fields l.field-index c.field-item.result _ c.as_slice-fields.ensures c.loop-field-test.true c.field-item.is in
    refused (not_each P c.args.con.now.fields l.field-index c.field-item.result c.is_term_type.result here c.is_term_type.ensures c.if-not-is_term_type.true)

pub returns : goal.returns
returns c =
    let P = λ (t : TypeTree). IsTermType (setting_of c.args.program.now) (reverse c.args.params.now) t in
    decided (before_all P c.as_slice-fields.result.now c.args.con.now.fields c.loop-field.field-index c.as_slice-fields.ensures c.loop-field-test.false c.loop-field.invariant)
