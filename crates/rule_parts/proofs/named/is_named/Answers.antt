use Rattle.rule_parts.proofs.Ports.{ports_are_named, tests_other}
use Rattle.rule_parts.proofs.named.is_named.Goals as goal

pub returns-in-C : goal.returns-in-C
returns-in-C c = tests_other c.is_port.result (ports_are_named c.args.datas.now c.args.mode c.args.ty.now c.in-C.is) c.is_port.ensures
