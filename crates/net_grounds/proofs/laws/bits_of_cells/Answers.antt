use Rattle.cell_bits.proofs.DataCells.{bears_at, value_of as wire_value, last_at, one_bears, cut_value}
use Rattle.cell_bits.proofs.Settling.{one_bears as operator_bears}
use Rattle.cell_bits.proofs.Table.{values_bear}
use Rattle.net_grounds.proofs.laws.bits_of_cells.Goals as goal

pub returns : goal.returns
returns c = record {
  bears_at = bears_at;
  wire_value = wire_value;
  last_at = last_at;
  one_bears = one_bears;
  operator_bears = operator_bears;
  cut_value = cut_value;
  values_bear = values_bear;
}
