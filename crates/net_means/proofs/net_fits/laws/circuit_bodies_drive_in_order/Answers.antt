use Rattle.net_means.proofs.NetFits.CircuitBodies.{circuit_body_ordered}
use Rattle.net_means.proofs.net_fits.laws.circuit_bodies_drive_in_order.Goals as goal

pub returns : goal.returns
returns c = λ o order e inner ty t path vars inputs p outputs sound typed under form built.
    circuit_body_ordered c.facts.ensures c.fields_keep_same.ensures c.same_types_keep_layout.ensures.measure c.saturated_spines.ensures.con c.spines_are_saturated.ensures.con c.saturated_spines.ensures.prim o order e inner ty t path vars inputs p outputs sound typed under form built
