-- the words so far
use Rattle.std.proofs.Common.{◌≡◌, map, take}
use Rattle.chw_bits.specs.Bits.{bits_of}
use Rattle.net_sim.proofs.opening.zero_words.Given as goal

abbrev pub invariant-loop-width : goal.invariant-loop-width
invariant-loop-width l = l.words.items ≡ map (λ n. bits_of n 0) (take l.width-index l.widths)
