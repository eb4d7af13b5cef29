-- the uses so far
use Rattle.std.proofs.Common.{◌≡◌, ◌+◌, length, take}
use Rattle.std.specs.Prelude.{sum_by}
use Rattle.net_flat.specs.Instances.{uses_along}
use Rattle.net_flat.specs.Sizes.{size_in}
use Rattle.net_flat.proofs.instances.uses.Given as goal

abbrev pub invariant-loop-cell : goal.invariant-loop-cell
invariant-loop-cell l = record {
  so_far : l.uses.items ≡ uses_along l.sizes l.base (l.base + length l.m.widths) (take l.cell-index l.m.cells);
  at : l.next ≡ l.base + length l.m.widths + sum_by (size_in l.sizes) (take l.cell-index l.m.cells);
}
