-- the names so far are added
use Rattle.std.proofs.Common.{take}
use Rattle.stimulus.specs.Texts.{texts}
use Rattle.blif_read.specs.Naming.{HasAlso}
use Rattle.blif_read.proofs.names.note_all.Given as goal

abbrev pub invariant-loop-name : goal.invariant-loop-name
invariant-loop-name l = HasAlso l.fn.table (texts (take l.name-index l.names)) l.table
