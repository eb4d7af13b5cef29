use Rattle.std.proofs.Common.{length, sym, subst, List}
use Rattle.chw_types.specs.declared.declarations.Data.{Data}
use Rattle.netlist.specs.declared.net.Module.{Module}
use Rattle.netlist.specs.declared.net.Net.{Net}
use Rattle.net_built.specs.Circuits.{Ground}
use Rattle.net_built.specs.Modules.{AreModules}
use Rattle.net_build.specs.Marks.{AreBelow}
use Rattle.net_build.specs.Nets.{EachIsReady}
use Rattle.net_build.proofs.Nets.{net_made}
use Rattle.net_build.proofs.building.net.Goals as goal

pub ports-requires-clause-datas : goal.ports-requires-clause-datas
ports-requires-clause-datas c = c.requires.ground.datas_are

pub modules-requires-clause-below : goal.modules-requires-clause-below
modules-requires-clause-below c =
    subst (λ (g : Ground). AreBelow (length c.args.made.now) g.order) (sym c.ports.ensures.same) c.requires.ground.below

pub modules-requires-clause-ready : goal.modules-requires-clause-ready
modules-requires-clause-ready c =
    subst (λ (g : Ground). EachIsReady g.datas c.args.made.now) (sym c.ports.ensures.same)
    (subst (λ (ds : List Data). EachIsReady ds c.args.made.now) (sym c.requires.ground.datas_are) c.requires.ready)

pub returns : goal.returns
returns c =
    let made = c.args.made.now in
    let ground = c.args.base.now in
    let net : Net = record { ports = c.in_ok-ports.ports; modules = c.from.result } in
    net_made c.args.program.now made ground net c.requires.ground c.in_ok-ports.ensures.ports
    (subst (λ (ms : List Module). AreModules ground made ground.order ms) (sym c.from.ensures)
    (subst (λ (g : Ground). AreModules g made g.order c.in_ok-modules.modules.items) c.ports.ensures.same c.in_ok-modules.ensures.modules))
