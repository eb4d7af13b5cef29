-- the instances so far wait, the rest are still to come
use Rattle.std.proofs.Common.{◌≡◌, ◌++◌, length, reverse}
use Rattle.net_flat.proofs.parts.push_waiting.Given as goal

abbrev pub invariant-loop-instance : goal.invariant-loop-instance
invariant-loop-instance l = l.waiting.items ++ reverse l.instances.items ≡ l.fn.waiting.items ++ reverse l.fn.instances.items

abbrev pub decreases-loop-instance : goal.decreases-loop-instance
decreases-loop-instance l = length l.instances.items
