-- the copies so far were pushed
use Rattle.std.proofs.Common.{◌≡◌, ◌++◌, take}
use Rattle.net_flat.specs.Instances.{input_copies}
use Rattle.net_flat.proofs.parts.push_inputs.Given as goal

abbrev pub invariant-loop-j : goal.invariant-loop-j
invariant-loop-j l = l.cells.items ≡ l.fn.cells.items ++ input_copies l.base (take l.j l.reads)
