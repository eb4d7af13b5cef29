-- the rows so far have their lengths
use Rattle.std.proofs.Common.{◌≡◌, [], take}
use Rattle.blif_text.specs.BlifText.{EachIs, HasLength, width_behind}
use Rattle.blif_read.specs.Shown.{all_said}
use Rattle.blif_read.proofs.lengths.length_fault.Given as goal

abbrev pub invariant-loop-it : goal.invariant-loop-it
invariant-loop-it l = record {
  width : l.width ≡ width_behind 0 (all_said (take l.it-index l.all));
  each : EachIs HasLength [] (all_said (take l.it-index l.all));
}
