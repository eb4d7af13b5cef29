use Rattle.std.proofs.Common.{◌∙◌, arith}
use Rattle.net_build.proofs.Ports.{no_port, some_port}
use Rattle.net_build.proofs.tops.push_port.Goals as goal

pub returns-then-width-eq0-clause-port : goal.returns-then-width-eq0-clause-port
returns-then-width-eq0-clause-port c = record {
  width = c.in_ok-width.width;
  measured = c.in_ok-width.ensures.width;
  are = no_port c.args.name.now c.args.leaf.now c.in_ok-width.width c.args.ports.now.items c.if-width-eq0.true;
}

pub returns-clause-port : goal.returns-clause-port
returns-clause-port c = record {
  width = c.in_ok-width.width;
  measured = c.in_ok-width.ensures.width;
  are = some_port c.args.name.now c.in_ok-name.name c.args.leaf.now c.in_ok-width.width c.args.ports.now.items c.push.new.self.items
      (omega (arith, c.if-width-eq0.false)) (c.in_ok-name.ensures ∙ c.as_slice.ensures) c.in_ok-push.ensures.items;
}
