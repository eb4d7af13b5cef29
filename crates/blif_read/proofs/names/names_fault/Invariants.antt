-- the statements so far keep the rule, and what they give is driven
use Rattle.std.proofs.Common.{◌≡◌, [], take}
use Rattle.name_tables.specs.Names.{AreDistinct}
use Rattle.blif_text.specs.BlifText.{EachIs, HasNames, all_given}
use Rattle.blif_read.specs.Shown.{all_said}
use Rattle.blif_read.proofs.names.names_fault.Given as goal

abbrev pub invariant-loop-it : goal.invariant-loop-it
invariant-loop-it l = record {
  driven : l.driven ≡ all_given (all_said (take l.it-index l.all));
  each : EachIs (HasNames (all_said l.all)) [] (all_said (take l.it-index l.all));
  distinct : AreDistinct l.driven;
}
