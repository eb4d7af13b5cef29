-- the words so far
use Rattle.std.proofs.Common.{◌≡◌, take}
use Rattle.net_sim.proofs.memory.Memory.of_words.Given as goal

abbrev pub invariant-loop-bits : goal.invariant-loop-bits
invariant-loop-bits l = l.copies.items ≡ take l.bits-index l.words
