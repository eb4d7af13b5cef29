-- what is still to be written gives what is to be written in all
use Rattle.std.proofs.Common.{◌≡◌, length, drop}
use Rattle.net_flat.specs.Drivers.{outputs_written}
use Rattle.net_flat.proofs.tables.write_outputs.Given as goal

abbrev pub invariant-loop-w : goal.invariant-loop-w
invariant-loop-w l = record {
  size : length l.table ≡ length l.fn.table;
  rest : outputs_written l.next l.table (drop (length l.yielded) l.drives) (drop (length l.yielded) l.outputs)
      ≡ outputs_written l.next l.fn.table l.drives l.outputs;
}
