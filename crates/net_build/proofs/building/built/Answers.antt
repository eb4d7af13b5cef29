use Rattle.std.proofs.Common.{sym, subst, List}
use Rattle.chw_types.specs.declared.declarations.Data.{Data}
use Rattle.chw_types.specs.References.{HasNoCycle}
use Rattle.net_build.specs.Nets.{EachIsReady, IsGround}
use Rattle.net_build.proofs.building.built.Goals as goal

pub base_of-requires-clause-datas : goal.base_of-requires-clause-datas
base_of-requires-clause-datas c =
    subst HasNoCycle (sym c.as_slice.ensures) ((c.data_types_in_order.ensures c.args.program.now.datas).0 c.requires.entry.typed.tidy.data_acyclic)

pub base_of-requires-clause-ready : goal.base_of-requires-clause-ready
base_of-requires-clause-ready c =
    let ready = c.states_are_ready.ensures c.args.program.now c.args.made.now c.requires.entry c.requires.normal c.requires.acyclic in
    subst (λ (ds : List Data). EachIsReady ds c.args.made.now) (sym c.as_slice.ensures) ready.each

pub base_of-requires-clause-there : goal.base_of-requires-clause-there
base_of-requires-clause-there c =
    let ready = c.states_are_ready.ensures c.args.program.now c.args.made.now c.requires.entry c.requires.normal c.requires.acyclic in
    ready.there

pub base_of-requires-clause-first : goal.base_of-requires-clause-first
base_of-requires-clause-first c =
    let ready = c.states_are_ready.ensures c.args.program.now c.args.made.now c.requires.entry c.requires.normal c.requires.acyclic in
    ready.first

pub net-net-requires-clause-ground : goal.net-net-requires-clause-ground
net-net-requires-clause-ground c =
    subst (λ (ds : List Data). IsGround ds c.args.made.now c.in_ok-base.base) c.as_slice.ensures c.in_ok-base.ensures

pub net-net-requires-clause-ready : goal.net-net-requires-clause-ready
net-net-requires-clause-ready c =
    let ready = c.states_are_ready.ensures c.args.program.now c.args.made.now c.requires.entry c.requires.normal c.requires.acyclic in
    ready.each

pub net-net-requires-clause-ports : goal.net-net-requires-clause-ports
net-net-requires-clause-ports c =
    let ready = c.states_are_ready.ensures c.args.program.now c.args.made.now c.requires.entry c.requires.normal c.requires.acyclic in
    (ready.ports, ready.are_ports)
