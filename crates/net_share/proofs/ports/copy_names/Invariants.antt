-- the copy has the items so far
use Rattle.std.proofs.Common.{◌≡◌, take}
use Rattle.net_share.proofs.ports.copy_names.Given as goal

abbrev pub invariant-loop-name : goal.invariant-loop-name
invariant-loop-name l = l.copy.items ≡ take l.name-index l.name-items
