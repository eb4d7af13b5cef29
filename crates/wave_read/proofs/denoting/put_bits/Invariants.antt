-- the bits so far
use Rattle.std.proofs.Common.{◌≡◌, length, take}
use Rattle.wave_read.specs.Shown.{bits_of}
use Rattle.wave_read.proofs.denoting.put_bits.Given as goal

abbrev pub invariant-loop-k : goal.invariant-loop-k
invariant-loop-k l = record {
  made : take l.k l.bits ≡ bits_of (take l.k l.digits);
  count : length l.bits ≡ length l.fn.bits;
}
