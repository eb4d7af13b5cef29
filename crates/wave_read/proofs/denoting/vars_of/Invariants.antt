-- the variables so far
use Rattle.std.proofs.Common.{◌≡◌, map, take}
use Rattle.waves.specs.Vcd.{variable}
use Rattle.wave_read.specs.Shown.{variable_of}
use Rattle.wave_text.specs.VcdText.{Declared}
use Rattle.wave_read.proofs.denoting.vars_of.Given as goal

abbrev pub invariant-loop-it : goal.invariant-loop-it
invariant-loop-it l =
    l.vars.items ≡ map (λ (v : Declared). variable v.name v.width) (map variable_of (take l.it-index l.declared))
