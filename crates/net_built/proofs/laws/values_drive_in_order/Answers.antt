use Rattle.net_built.proofs.InOrder.{value_ordered}
use Rattle.net_built.proofs.laws.values_drive_in_order.Goals as goal

pub returns : goal.returns
returns c = λ ground scope n w h ts es p fits cells. value_ordered fits cells
