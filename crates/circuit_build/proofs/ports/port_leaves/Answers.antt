use Rattle.std.proofs.Common.{sym, subst}
use Rattle.std.specs.Prelude.{IfNone}
use Rattle.type_ports.specs.Ports.{IsNoPort, Leaves}
use Rattle.circuit_build.proofs.ports.port_leaves.Goals as goal

pub unreachable-requires : goal.unreachable-requires
unreachable-requires c =
    let datas = c.datas.result.now in
    let none = subst (λ o. IfNone o (IsNoPort datas c.args.t.now)) c.in-None.is c.in_ok-leaves.ensures.none in
    none c.requires.port.0 (subst (λ ds. Leaves ds c.args.t.now c.requires.port.0) (sym c.datas.ensures.datas) c.requires.port.1)
