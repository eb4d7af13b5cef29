-- what becomes of the wires so far
use Rattle.std.proofs.Common.{◌≡◌, take}
use Rattle.net_share.specs.Renaming.{new_wires}
use Rattle.net_share.proofs.renaming.wires_after.Given as goal

abbrev pub invariant-loop-w : goal.invariant-loop-w
invariant-loop-w l = l.after.items ≡ new_wires l.names (take l.w-index l.wires)
