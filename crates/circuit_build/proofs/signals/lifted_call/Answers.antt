use Rattle.std.proofs.Common.{refl, sym, subst}
use Rattle.std.proofs.lemmas.Result.{on_ok_weaker}
use Rattle.value_build.specs.InScope.{in_scope}
use Rattle.circuit_build.specs.Arguments.{lifting_args}
use Rattle.circuit_build.specs.Lifting.{AreLiftedReads}
use Rattle.circuit_build.proofs.SignalCells.{lifted_made}
use Rattle.circuit_build.proofs.signals.lifted_call.Goals as goal

pub returns : goal.returns
returns c =
    let p = c.args.p in
    let scope = in_scope c.args.scope.now in
    let m = c.in_ok-m.m.number in
    let before = c.new-reads.result.items in
    on_ok_weaker c.use_of.result
    (λ is. lifted_made c.args.base.now scope p.domain.now p.from.now p.to.now p.function.now p.signal.now m
    c.deref.result.now before (lifting_args p) c.args.widths.now c.args.into.now c.use_of.new.into refl c.new-reads.ensures.items
    (subst (λ ws. AreLiftedReads scope m p.function.now p.signal.now before ws) (sym c.deref.ensures.value) c.in_ok-m.ensures) is)
    c.use_of.ensures
