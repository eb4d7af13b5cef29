use Rattle.net_built.specs.Built.{ground_of}
use Rattle.net_means.proofs.CircuitBits.Instances.{module_there, body_stands}
use Rattle.net_means.proofs.circuit_bits.laws.bodies_stand.Goals as goal

pub returns : goal.returns
returns c = record {
  modules = λ d m inner e. module_there (ground_of d.program d.built.order) d.state d.built.order d.net.modules m inner d.built.modules e;
  body = body_stands;
}
