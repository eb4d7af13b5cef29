use Rattle.std.proofs.Common.{length, subst}
use Rattle.std.specs.Prelude.{reverse}
use Rattle.chw_types.specs.Kinds.{KindOf, HasNoKind}
use Rattle.term_spines.proofs.kinding.kind_in.Goals as goal

pub returns-in-Ok : goal.returns-in-Ok
returns-in-Ok c =
    let program = c.args.scene.now.program.now in
    let scope = reverse c.args.kinds.now in
    subst (λ ds. KindOf program.datas (length ds) scope c.args.ty.now c.in-Ok.kind) c.as_slice-domains.ensures
    (subst (λ ds. KindOf ds (length c.as_slice-domains.result.now) scope c.args.ty.now c.in-Ok.kind) c.as_slice-datas.ensures c.in-Ok.ensures.kind)

pub returns-in-Err : goal.returns-in-Err
returns-in-Err c =
    let program = c.args.scene.now.program.now in
    let scope = reverse c.args.kinds.now in
    subst (λ ds. HasNoKind program.datas (length ds) scope c.args.ty.now) c.as_slice-domains.ensures
    (subst (λ ds. HasNoKind ds (length c.as_slice-domains.result.now) scope c.args.ty.now) c.as_slice-datas.ensures c.in-Err.ensures.fault)
