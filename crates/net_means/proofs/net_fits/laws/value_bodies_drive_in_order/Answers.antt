use Rattle.net_means.proofs.NetFits.ValueDrivers.{value_body_ordered}
use Rattle.net_means.proofs.net_fits.laws.value_bodies_drive_in_order.Goals as goal

pub returns : goal.returns
returns c = λ s order e t inputs p outputs sound typed free built. value_body_ordered c.facts.ensures c.same_types_keep_layout.ensures.measure s order e t inputs p outputs sound typed free built
