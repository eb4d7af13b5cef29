use Rattle.make_laws.proofs.Ports.{made_ports}
use Rattle.make_laws.proofs.laws.made_programs_have_ports.Goals as goal

pub returns : goal.returns
returns c = made_ports
