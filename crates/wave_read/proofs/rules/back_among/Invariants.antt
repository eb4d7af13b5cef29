-- the times so far rise
use Rattle.std.proofs.Common.{List, take}
use Rattle.wave_read.specs.Shown.{times_of}
use Rattle.wave_read.specs.declared.source.Changed.{Changed}
use Rattle.wave_text.specs.VcdText.{Rise}
use Rattle.wave_read.proofs.rules.back_among.Given as goal

abbrev pub invariant-loop-k : goal.invariant-loop-k
invariant-loop-k l = (changes : List Changed) → Rise (take l.k (times_of l.moments changes))
