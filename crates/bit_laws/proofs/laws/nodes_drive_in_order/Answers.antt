use Rattle.bit_laws.proofs.CellOrder.{cell_drives}
use Rattle.bit_laws.proofs.laws.nodes_drive_in_order.Goals as goal

pub returns : goal.returns
returns c = λ flat cell w sound has t. cell_drives flat sound cell w has t
