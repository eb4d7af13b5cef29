use Rattle.net_ready.proofs.OrdersThere.{order_there}
use Rattle.net_ready.proofs.laws.orders_are_there.Goals as goal

pub returns : goal.returns
returns c = λ datas state none there first outputs. order_there datas state none there outputs first
