-- the digits so far, and room for all of them
use Rattle.std.proofs.Common.{◌≡◌, ◌+◌, ◌≤◌, ◌++◌, length, map, take, vec_capacity, vec_len}
use Rattle.waves.specs.Vcd.{digit_of}
use Rattle.waves.proofs.values.fill_digits.Given as goal

abbrev pub invariant-loop-bit : goal.invariant-loop-bit
invariant-loop-bit l = record {
  made : l.out.items ≡ l.initial.out.items ++ map digit_of (take l.bit-index l.bits);
  room : vec_len l.out + length l.bits ≤ vec_capacity l.out + l.bit-index;
}
