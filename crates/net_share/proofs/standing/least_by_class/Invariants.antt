-- the table has the least wires from this one on
use Rattle.std.proofs.Common.{◌≡◌, length}
use Rattle.net_share.specs.Standing.{LeastsFrom}
use Rattle.net_share.proofs.standing.least_by_class.Given as goal

abbrev pub invariant-loop-w : goal.invariant-loop-w
invariant-loop-w l = record {
  count : length l.table.items ≡ length l.flat.widths;
  least : LeastsFrom l.flat l.classes.of l.w l.table.items;
}
