use Rattle.std.proofs.lemmas.Result.{IfOk-weaker}
use Rattle.chw_meaning.specs.Means.{HasPorts}
use Rattle.net_build.specs.Ports.{ArePorts}
use Rattle.net_build.proofs.Ends.{top_has_ends}
use Rattle.net_build.proofs.Ports.{ports_of_program, leaves_have_ports}
use Rattle.net_build.proofs.tops.ports.Goals as goal

pub ends_of-requires : goal.ends_of-requires
ends_of-requires c =
    top_has_ends c.args.program.now c.args.base.now.datas c.top_of.result.now c.requires.datas c.top_of.ensures c.requires.ports

pub ports_at-ports-requires-clause-inputs : goal.ports_at-ports-requires-clause-inputs
ports_at-ports-requires-clause-inputs c =
    (leaves_have_ports c.args.program.now c.args.base.now.datas c.top_of.result.now c.in_ok-ends.ends.ins.items c.in_ok-ends.ends.outs.items
    c.requires.datas c.top_of.ensures c.in_ok-ends.ensures c.requires.ports).0

pub ports_at-ports-requires-clause-outputs : goal.ports_at-ports-requires-clause-outputs
ports_at-ports-requires-clause-outputs c =
    (leaves_have_ports c.args.program.now c.args.base.now.datas c.top_of.result.now c.in_ok-ends.ends.ins.items c.in_ok-ends.ends.outs.items
    c.requires.datas c.top_of.ensures c.in_ok-ends.ensures c.requires.ports).1

pub returns-clause-ports : goal.returns-clause-ports
returns-clause-ports c =
    let p = c.args.program.now in
    let datas = c.args.base.now.datas in
    let ins = c.in_ok-ends.ends.ins.items in
    let outs = c.in_ok-ends.ends.outs.items in
    IfOk-weaker c.ports_at-ports.result (ArePorts datas p ins outs) (HasPorts p)
    (λ ps are. ports_of_program p datas c.top_of.result.now ins outs ps c.requires.datas c.top_of.ensures c.in_ok-ends.ensures are)
    c.ports_at-ports.ensures.ports
