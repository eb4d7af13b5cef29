-- the names of the statements so far
use Rattle.std.proofs.Common.{◌≡◌, take}
use Rattle.blif_text.specs.BlifText.{all_outputs}
use Rattle.blif_read.specs.Shown.{all_said}
use Rattle.blif_read.proofs.bitnet.output_names.Given as goal

abbrev pub invariant-loop-it : goal.invariant-loop-it
invariant-loop-it l = l.names.items ≡ all_outputs (all_said (take l.it-index l.all))
