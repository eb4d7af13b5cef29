use Rattle.std.proofs.Common.{sym, subst}
use Rattle.type_ports.specs.Ports.{IsPort}
use Rattle.net_build.proofs.Ends.{result_is_port}
use Rattle.net_build.proofs.Ports.{led_whole}
use Rattle.net_build.proofs.tops.ends_of.Goals as goal

pub port_leaves-requires : goal.port_leaves-requires
port_leaves-requires c = record {
  port = subst (λ t. IsPort c.args.base.now.datas t) (sym c.in_ok-rest.ensures.last) (result_is_port c.requires.2);
}

pub returns : goal.returns
returns c =
    led_whole c.args.base.now.datas c.args.t.now c.in_ok-rest.rest.now c.parameters.new.ins.items c.in_ok-outs.outs.items
    c.in_ok-rest.ensures.led c.in_ok-outs.ensures
