use Rattle.std.proofs.Common.{◌∙◌}
use Rattle.std.proofs.lemmas.Result.{on_ok_weaker}
use Rattle.value_build.specs.InScope.{in_scope}
use Rattle.value_build.proofs.Operands.{no_types}
use Rattle.circuit_build.proofs.SignalCells.{call_made}
use Rattle.circuit_build.proofs.signals.call.Goals as goal

pub returns : goal.returns
returns c =
    on_ok_weaker c.use_of.result
    (λ is. call_made c.args.base.now (in_scope c.args.scope.now) c.args.m.number c.deref.result.now c.args.args.now c.args.widths.now c.args.into.now c.use_of.new.into
    (no_types c.args.args.now c.requires) (c.deref.ensures.value ∙ c.in_ok-reads.ensures) is)
    c.use_of.ensures
