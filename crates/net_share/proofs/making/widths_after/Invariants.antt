-- the widths of the first wires and of the kept ones so far
use Rattle.std.proofs.Common.{◌≡◌, ◌++◌, map, take}
use Rattle.std.specs.Prelude.{slice_index}
use Rattle.net_share.proofs.making.widths_after.Given as goal

abbrev pub invariant-loop-w : goal.invariant-loop-w
invariant-loop-w l = l.after.items ≡ take l.inputs l.widths ++ map (λ w. slice_index l.widths w) (take l.w-index l.kept)
