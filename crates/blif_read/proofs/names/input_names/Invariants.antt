-- the names of the statements so far are in the table
use Rattle.std.proofs.Common.{take}
use Rattle.blif_text.specs.BlifText.{all_inputs}
use Rattle.blif_read.specs.Naming.{HasSame}
use Rattle.blif_read.specs.Shown.{all_said}
use Rattle.blif_read.proofs.names.input_names.Given as goal

abbrev pub invariant-loop-it : goal.invariant-loop-it
invariant-loop-it l = HasSame (all_inputs (all_said (take l.it-index l.all))) l.table
