use Rattle.value_build.specs.InScope.{in_scope}
use Rattle.circuit_build.proofs.SignalCells.{one_lifted}
use Rattle.circuit_build.proofs.signals.lifted_on_one.Goals as goal

pub returns : goal.returns
returns c =
    let p = c.args.p in
    one_lifted (in_scope c.args.scope.now) p.domain.now p.from.now p.to.now p.function.now p.signal.now c.made_of-m.result.number
    c.wires_of.result.now c.args.reads.now.items c.extend_from_slice.new.self.items c.made_of-m.ensures c.wires_of.ensures c.in_ok-extend_from_slice.ensures.items
