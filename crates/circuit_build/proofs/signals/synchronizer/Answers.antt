use Rattle.std.proofs.Common.{refl}
use Rattle.std.proofs.lemmas.Result.{on_ok_weaker}
use Rattle.value_build.specs.InScope.{in_scope}
use Rattle.circuit_build.specs.Arguments.{crossing_args}
use Rattle.circuit_build.proofs.SignalCells.{synchronizer_made}
use Rattle.circuit_build.proofs.signals.synchronizer.Goals as goal

pub returns : goal.returns
returns c =
    let p = c.args.p in
    on_ok_weaker c.copies.result
    (λ is ground. synchronizer_made ground (in_scope c.args.scope.now) p.from.now p.to.now p.payload.now p.signal.now c.wires_of.result.now (crossing_args p) c.args.widths.now
    c.args.into.now c.copies.new.into refl c.wires_of.ensures is)
    c.copies.ensures
