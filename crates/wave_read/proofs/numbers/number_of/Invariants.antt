-- the digits so far, and their number
use Rattle.std.proofs.Common.{◌≡◌, ◌<◌, ◌^◌, take}
use Rattle.std.specs.Str.Parse.{digits_value, AllDigits}
use Rattle.wave_read.proofs.numbers.number_of.Given as goal

abbrev pub invariant-loop-byte : goal.invariant-loop-byte
invariant-loop-byte l = record {
  is : l.number ≡ digits_value 10 (take l.byte-index l.digits);
  digits : AllDigits 10 (take l.byte-index l.digits);
  fits : l.number < 2 ^ 64;
}
