-- the sizes of the modules so far
use Rattle.std.proofs.Common.{◌≡◌, length}
use Rattle.net_flat.specs.Sizes.{AreSizes}
use Rattle.net_flat.proofs.sizes.sizes.Given as goal

abbrev pub invariant-loop-m : goal.invariant-loop-m
invariant-loop-m l = record { so_far : AreSizes l.net l.sizes.items; count : length l.sizes.items ≡ l.m-index }
