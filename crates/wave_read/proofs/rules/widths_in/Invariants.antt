-- the widths of the variables so far
use Rattle.std.proofs.Common.{◌≡◌, map, take}
use Rattle.wave_read.specs.Shown.{variable_of}
use Rattle.wave_text.specs.VcdText.{Declared}
use Rattle.wave_read.proofs.rules.widths_in.Given as goal

abbrev pub invariant-loop-it : goal.invariant-loop-it
invariant-loop-it l = l.widths.items ≡ map (λ (v : Declared). v.width) (map variable_of (take l.it-index l.declared))
