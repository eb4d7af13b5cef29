-- the places so far are those of the codes of one byte
use Rattle.std.proofs.Common.{◌≡◌, length}
use Rattle.wave_read.specs.Codes.{AreShort}
use Rattle.wave_read.proofs.codes.short_of.Given as goal

abbrev pub invariant-loop-byte : goal.invariant-loop-byte
invariant-loop-byte l = record {
  count : length l.short.items ≡ l.byte;
  short : AreShort l.names l.short.items;
}
