-- the wires of the module and of the uses so far
use Rattle.std.proofs.Common.{◌≡◌, ◌+◌, length, take}
use Rattle.std.specs.Prelude.{sum_by}
use Rattle.net_flat.specs.Sizes.{capped, size_in}
use Rattle.net_flat.proofs.sizes.size_of.Given as goal

abbrev pub invariant-loop-cell : goal.invariant-loop-cell
invariant-loop-cell l = l.size ≡ capped (length l.m.widths + sum_by (size_in l.sizes) (take l.cell-index l.cell-items))
