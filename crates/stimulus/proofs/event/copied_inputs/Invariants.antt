-- the copies so far
use Rattle.std.proofs.Common.{◌≡◌, take}
use Rattle.stimulus.proofs.event.copied_inputs.Given as goal

abbrev pub invariant-loop-bits : goal.invariant-loop-bits
invariant-loop-bits l = l.copies.items ≡ take l.bits-index l.inputs
