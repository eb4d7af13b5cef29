use Rattle.std.proofs.Common.{refl}
use Rattle.std.proofs.lemmas.Result.{on_ok_weaker}
use Rattle.circuit_build.specs.Arguments.{steady_args}
use Rattle.circuit_build.proofs.SignalCells.{pure_made}
use Rattle.circuit_build.proofs.signals.constant_signal.Goals as goal

pub one_width-w-requires : goal.one_width-w-requires
one_width-w-requires c = c.requires.ready.0

pub constant_bits-requires : goal.constant_bits-requires
constant_bits-requires c = record { bits = c.requires.ready.1 }

pub returns-clause-cells : goal.returns-clause-cells
returns-clause-cells c =
    let p = c.args.p in
    on_ok_weaker c.constant.result
    (λ is scope. pure_made c.args.base.now scope p.domain.now p.payload.now p.constant.now c.one_width-w.result c.in_ok-bits.bits (steady_args p) c.args.widths.now
    c.args.into.now c.constant.new.into refl c.one_width-w.ensures c.in_ok-bits.ensures.bits is)
    c.constant.ensures
