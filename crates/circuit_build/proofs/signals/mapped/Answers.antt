use Rattle.std.proofs.Common.{refl}
use Rattle.std.proofs.lemmas.Result.{on_ok_weaker}
use Rattle.value_build.specs.InScope.{in_scope}
use Rattle.circuit_build.specs.Arguments.{lifting_args}
use Rattle.circuit_build.proofs.SignalCells.{mapped_made}
use Rattle.circuit_build.proofs.signals.mapped.Goals as goal

pub returns : goal.returns
returns c =
    let p = c.args.p in
    on_ok_weaker c.use_of.result
    (λ is. mapped_made c.args.base.now (in_scope c.args.scope.now) p.domain.now p.from.now p.to.now p.function.now p.signal.now c.made_of-m.result.number
    c.wires_of.result.now (lifting_args p) c.args.widths.now c.args.into.now c.use_of.new.into refl c.made_of-m.ensures c.wires_of.ensures is)
    c.use_of.ensures
