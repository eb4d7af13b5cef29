use Rattle.std.proofs.Common.{List, ℕ, subst}
use Rattle.net_built.specs.Data.{HasParts}
use Rattle.circuit_build.proofs.ports.parts_of.Goals as goal

pub port_parts-requires : goal.port_parts-requires
port_parts-requires c = record { port = subst (λ s. (ws : List ℕ) × HasParts c.args.base.now.datas s c.args.t.now ws) c.in-Circuit.is c.requires.parts }

pub value_parts-requires : goal.value_parts-requires
value_parts-requires c = record { parts = subst (λ s. (ws : List ℕ) × HasParts c.args.base.now.datas s c.args.t.now ws) c.in-Value.is c.requires.parts }
