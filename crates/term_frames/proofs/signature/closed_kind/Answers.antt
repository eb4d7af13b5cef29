use Rattle.std.proofs.Common.{length, sym, subst, []}
use Rattle.chw_types.specs.Kinds.{KindOf, HasNoKind}
use Rattle.chw_types.proofs.KindsFound.{kind_is_found}
use Rattle.term_frames.proofs.Signed.{nothing_found}
use Rattle.term_frames.proofs.signature.closed_kind.Goals as goal

pub returns-in-Ok : goal.returns-in-Ok
returns-in-Ok c =
    let p = c.args.program.now in
    sym (kind_is_found (subst (λ ds. KindOf p.datas (length ds) [] c.args.ty.now c.in-Ok.kind) c.as_slice-2.ensures
    (subst (λ ds. KindOf ds (length c.as_slice-2.result.now) [] c.args.ty.now c.in-Ok.kind) c.as_slice.ensures c.in-Ok.ensures.kind)))

pub returns-in-Err : goal.returns-in-Err
returns-in-Err c =
    let p = c.args.program.now in
    sym (nothing_found p.datas (length p.domains) [] c.args.ty.now (subst (λ ds. HasNoKind p.datas (length ds) [] c.args.ty.now) c.as_slice-2.ensures
    (subst (λ ds. HasNoKind ds (length c.as_slice-2.result.now) [] c.args.ty.now) c.as_slice.ensures c.in-Err.ensures.fault)))
