use Rattle.graph_order.proofs.Exclusion.{places}
use Rattle.graph_order.proofs.laws.an_order_gives_places.Goals as goal

pub returns : goal.returns
returns c = places
