use Rattle.std.proofs.Common.{length, sym, ap, reverse}
use Rattle.chw_types.proofs.KindsFound.{kind_is_found}
use Rattle.term_frames.specs.FieldTypes.{kind_or_val}
use Rattle.term_frames.proofs.Signed.{nothing_found}
use Rattle.term_frames.proofs.fields.whole_kind.Goals as goal

pub returns-in-Ok : goal.returns-in-Ok
returns-in-Ok c = sym (ap kind_or_val (kind_is_found c.in-Ok.ensures.kind))

pub returns-in-Err : goal.returns-in-Err
returns-in-Err c =
    let p = c.args.fields.now in
    sym (ap kind_or_val (nothing_found p.datas.now (length p.domains.now) (reverse p.params.now) c.args.field.now c.in-Err.ensures.fault))
