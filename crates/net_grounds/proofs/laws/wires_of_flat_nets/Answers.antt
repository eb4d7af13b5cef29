use Rattle.net_flat.proofs.Widths.{widths_step}
use Rattle.net_flat.proofs.Within.{long_before, stands_at, use_split}
use Rattle.netlist.proofs.Driven.{driven_wire, target_in_order}
use Rattle.netlist.proofs.Before.{before_fits, before_shorter, taken_fits, taken_shorter}
use Rattle.net_grounds.proofs.laws.wires_of_flat_nets.Goals as goal

pub returns : goal.returns
returns c = record {
  widths_step = widths_step;
  long_before = long_before;
  stands_at = stands_at;
  use_split = use_split;
  driven_wire = driven_wire;
  target_in_order = target_in_order;
  before_fits = before_fits;
  before_shorter = before_shorter;
  taken_fits = taken_fits;
  taken_shorter = taken_shorter;
}
