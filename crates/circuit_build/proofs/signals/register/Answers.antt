use Rattle.std.proofs.Common.{refl}
use Rattle.std.proofs.lemmas.Result.{on_ok_weaker}
use Rattle.value_build.specs.InScope.{in_scope}
use Rattle.circuit_build.specs.Arguments.{delay_args}
use Rattle.circuit_build.proofs.Readiness.{register_known}
use Rattle.circuit_build.proofs.SignalCells.{register_made}
use Rattle.circuit_build.proofs.signals.register.Goals as goal

pub domain_of-domain-requires : goal.domain_of-domain-requires
domain_of-domain-requires c =
    let p = c.args.p in
    (register_known c.args.base.now.datas c.args.widths.now p.domain.now p.payload.now p.first.now p.signal.now c.requires.ready).0

pub one_width-w-requires : goal.one_width-w-requires
one_width-w-requires c =
    let p = c.args.p in
    (register_known c.args.base.now.datas c.args.widths.now p.domain.now p.payload.now p.first.now p.signal.now c.requires.ready).1

pub constant_bits-requires : goal.constant_bits-requires
constant_bits-requires c = let p = c.args.p in
    record { bits = (register_known c.args.base.now.datas c.args.widths.now p.domain.now p.payload.now p.first.now p.signal.now c.requires.ready).2 }

pub returns-clause-cells : goal.returns-clause-cells
returns-clause-cells c =
    let p = c.args.p in
    on_ok_weaker c.register.result
    (λ is. register_made c.args.base.now (in_scope c.args.scope.now) c.domain_of-domain.result p.domain.now p.payload.now p.first.now p.signal.now c.one_width-w.result
    c.in_ok-bits.bits c.wires_of.result.now (delay_args p) c.args.widths.now c.args.into.now c.register.new.into
    refl c.domain_of-domain.ensures c.one_width-w.ensures c.in_ok-bits.ensures.bits c.wires_of.ensures is)
    c.register.ensures
