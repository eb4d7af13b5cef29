-- no change behind these is one of the variable
use Rattle.std.proofs.Common.{◌≡◌, None, take}
use Rattle.wave_text.specs.Values.{latest}
use Rattle.wave_text.proofs.wave.latest.Given as goal

abbrev pub invariant-loop-k : goal.invariant-loop-k
invariant-loop-k l = latest l.var None (take l.k l.changes) ≡ latest l.var None l.changes
