use Rattle.std.proofs.Common.{[], refl}
use Rattle.std.proofs.lemmas.Result.{on_ok_weaker}
use Rattle.chw_terms.specs.TermTree.{var}
use Rattle.chw_terms.specs.TermView.{alts_of}
use Rattle.net_ready.specs.Ready.{types_on}
use Rattle.value_build.specs.InScope.{in_scope}
use Rattle.circuit_build.specs.declared.views.CircuitSide.TheVariants as side
use Rattle.circuit_build.proofs.CircuitSides.{variable_made, cells_as, ready_as}
use Rattle.circuit_build.proofs.Readiness.{ap_known, case_ready, mapped_known}
use Rattle.circuit_build.proofs.circuits.side_cells.Goals as goal

pub returns-in-Copy-clause-cells : goal.returns-in-Copy-clause-cells
returns-in-Copy-clause-cells c =
    let ground = c.args.base.now in
    let scope = in_scope c.args.scope.now in
    let widths = c.args.widths.now in
    let s = c.args.into.now in
    let x = c.in-Copy.x in
    on_ok_weaker c.copies.result
    (λ is. cells_as ground scope widths c.args.side (side.Copy x) s c.copies.new.into c.in-Copy.is
    (variable_made ground scope x.number c.wires_at.result.now (var x.number) widths s c.copies.new.into refl c.wires_at.ensures is))
    c.copies.ensures

pub constant_signal-requires : goal.constant_signal-requires
constant_signal-requires c =
    record { ready = ready_as c.args.base.now.datas (types_on (in_scope c.args.scope.now)) c.args.widths.now c.args.side (side.Constant c.in-Constant.p) c.in-Constant.is c.requires.ready }

pub returns-in-Constant-clause-cells : goal.returns-in-Constant-clause-cells
returns-in-Constant-clause-cells c =
    on_ok_weaker c.constant_signal.result
    (λ all. cells_as c.args.base.now (in_scope c.args.scope.now) c.args.widths.now c.args.side (side.Constant c.in-Constant.p) c.args.into.now c.constant_signal.new.into c.in-Constant.is (all (in_scope c.args.scope.now)))
    c.constant_signal.ensures.cells

pub register-requires : goal.register-requires
register-requires c =
    record { ready = ready_as c.args.base.now.datas (types_on (in_scope c.args.scope.now)) c.args.widths.now c.args.side (side.Register c.in-Register.p) c.in-Register.is c.requires.ready }

pub returns-in-Register-clause-cells : goal.returns-in-Register-clause-cells
returns-in-Register-clause-cells c =
    on_ok_weaker c.register.result
    (cells_as c.args.base.now (in_scope c.args.scope.now) c.args.widths.now c.args.side (side.Register c.in-Register.p) c.args.into.now c.register.new.into c.in-Register.is)
    c.register.ensures.cells

pub block_ram-requires : goal.block_ram-requires
block_ram-requires c =
    record { ready = ready_as c.args.base.now.datas (types_on (in_scope c.args.scope.now)) c.args.widths.now c.args.side (side.Memory c.in-Memory.p) c.in-Memory.is c.requires.ready }

pub returns-in-Memory-clause-cells : goal.returns-in-Memory-clause-cells
returns-in-Memory-clause-cells c =
    on_ok_weaker c.block_ram.result
    (cells_as c.args.base.now (in_scope c.args.scope.now) c.args.widths.now c.args.side (side.Memory c.in-Memory.p) c.args.into.now c.block_ram.new.into c.in-Memory.is)
    c.block_ram.ensures.cells

pub returns-in-Crossing-clause-cells : goal.returns-in-Crossing-clause-cells
returns-in-Crossing-clause-cells c =
    on_ok_weaker c.synchronizer.result
    (λ all. cells_as c.args.base.now (in_scope c.args.scope.now) c.args.widths.now c.args.side (side.Crossing c.in-Crossing.p) c.args.into.now c.synchronizer.new.into c.in-Crossing.is (all c.args.base.now))
    c.synchronizer.ensures

pub mapped-requires : goal.mapped-requires
mapped-requires c =
    let p = c.in-Mapped.p in
    mapped_known p.domain.now p.from.now p.to.now p.function.now p.signal.now
    (ready_as c.args.base.now.datas (types_on (in_scope c.args.scope.now)) c.args.widths.now c.args.side (side.Mapped p) c.in-Mapped.is c.requires.ready)

pub returns-in-Mapped-clause-cells : goal.returns-in-Mapped-clause-cells
returns-in-Mapped-clause-cells c =
    on_ok_weaker c.mapped.result
    (cells_as c.args.base.now (in_scope c.args.scope.now) c.args.widths.now c.args.side (side.Mapped c.in-Mapped.p) c.args.into.now c.mapped.new.into c.in-Mapped.is)
    c.mapped.ensures

pub lifted_call-requires : goal.lifted_call-requires
lifted_call-requires c =
    let p = c.in-Lifted.p in
    ap_known p.domain.now p.from.now p.to.now p.function.now p.signal.now
    (ready_as c.args.base.now.datas (types_on (in_scope c.args.scope.now)) c.args.widths.now c.args.side (side.Lifted p) c.in-Lifted.is c.requires.ready)

pub returns-in-Lifted-clause-cells : goal.returns-in-Lifted-clause-cells
returns-in-Lifted-clause-cells c =
    on_ok_weaker c.lifted_call.result
    (cells_as c.args.base.now (in_scope c.args.scope.now) c.args.widths.now c.args.side (side.Lifted c.in-Lifted.p) c.args.into.now c.lifted_call.new.into c.in-Lifted.is)
    c.lifted_call.ensures

pub call-requires : goal.call-requires
call-requires c =
    ready_as c.args.base.now.datas (types_on (in_scope c.args.scope.now)) c.args.widths.now c.args.side (side.Call c.in-Call.m c.in-Call.args) c.in-Call.is c.requires.ready

pub returns-in-Call-clause-cells : goal.returns-in-Call-clause-cells
returns-in-Call-clause-cells c =
    on_ok_weaker c.call.result
    (cells_as c.args.base.now (in_scope c.args.scope.now) c.args.widths.now c.args.side (side.Call c.in-Call.m c.in-Call.args) c.args.into.now c.call.new.into c.in-Call.is)
    c.call.ensures

pub returns-in-Product-clause-cells : goal.returns-in-Product-clause-cells
returns-in-Product-clause-cells c =
    on_ok_weaker c.product.result
    (λ all. cells_as c.args.base.now (in_scope c.args.scope.now) c.args.widths.now c.args.side (side.Product c.in-Product.field-0 c.in-Product.args) c.args.into.now c.product.new.into c.in-Product.is (all c.args.base.now c.in-Product.field-0.number))
    c.product.ensures

pub projection-requires : goal.projection-requires
projection-requires c =
    let datas = c.args.base.now.datas in
    let vars = types_on (in_scope c.args.scope.now) in
    let p = c.in-Projection in
    record { ready = case_ready datas vars c.args.widths.now p.on.now (alts_of p.alts.now) [] (ready_as datas vars c.args.widths.now c.args.side (side.Projection p.on p.alts) p.is c.requires.ready) }

pub returns-in-Projection-clause-cells : goal.returns-in-Projection-clause-cells
returns-in-Projection-clause-cells c =
    on_ok_weaker c.projection.result
    (cells_as c.args.base.now (in_scope c.args.scope.now) c.args.widths.now c.args.side (side.Projection c.in-Projection.on c.in-Projection.alts) c.args.into.now c.projection.new.into c.in-Projection.is)
    c.projection.ensures.cells
