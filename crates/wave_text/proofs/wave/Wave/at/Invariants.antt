-- no step behind these has a change of the variable at or before the time
use Rattle.std.proofs.Common.{◌≡◌, None, take}
use Rattle.wave_text.specs.Values.{at_steps}
use Rattle.wave_text.proofs.wave.Wave.at.Given as goal

abbrev pub invariant-loop-k : goal.invariant-loop-k
invariant-loop-k l = at_steps l.var l.time None (take l.k l.self.steps) ≡ at_steps l.var l.time None l.self.steps
