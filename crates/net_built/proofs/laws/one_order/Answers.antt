use Rattle.net_built.proofs.Orders.{order_once}
use Rattle.net_built.proofs.laws.one_order.Goals as goal

pub returns : goal.returns
returns c = λ datas state a b h k. order_once h k
