-- the copies so far
use Rattle.std.proofs.Common.{◌≡◌, ◌-◌, ◌++◌, replicate}
use Rattle.stimulus.proofs.event.put_copies.Given as goal

abbrev pub invariant-loop-copy : goal.invariant-loop-copy
invariant-loop-copy l = l.into.items ≡ l.fn.into.items ++ replicate (l._copy - 1) l.event
