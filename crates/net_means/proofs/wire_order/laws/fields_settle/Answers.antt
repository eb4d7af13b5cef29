use Rattle.net_means.proofs.WireOrder.Cases.{fields_settle}
use Rattle.net_means.proofs.wire_order.laws.fields_settle.Goals as goal

pub returns : goal.returns
returns c = λ net path below whole n y wires fields widths v has h e. fields_settle net path below whole n y wires fields widths v has h e
