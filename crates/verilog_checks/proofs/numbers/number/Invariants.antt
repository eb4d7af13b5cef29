-- the number of the digits so far
use Rattle.std.proofs.Common.{◌≡◌, ◌-◌, ◌^◌, take}
use Rattle.std.specs.Prelude.{min}
use Rattle.verilog_text.specs.Declared.{value}
use Rattle.verilog_checks.proofs.numbers.number.Given as goal

abbrev pub invariant-loop-byte : goal.invariant-loop-byte
invariant-loop-byte l = l.number ≡ min (value (take l.byte-index l.digits)) (2 ^ 64 - 1)
