-- no bit so far is set
use Rattle.std.proofs.Common.{◌≡◌, take, false}
use Rattle.std.specs.Prelude.{replicate}
use Rattle.data_forms.proofs.reading.all_zero.Given as goal

abbrev pub invariant-loop-bit : goal.invariant-loop-bit
invariant-loop-bit l = take l.bit-index l.bits ≡ replicate l.bit-index false
