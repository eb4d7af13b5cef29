-- the names so far are declared behind the old ones
use Rattle.std.proofs.Common.{take}
use Rattle.stimulus.specs.Texts.{texts}
use Rattle.blif_read.proofs.Tables.{AreDeclared}
use Rattle.blif_read.proofs.names.declare_all.Given as goal

abbrev pub invariant-loop-name : goal.invariant-loop-name
invariant-loop-name l = AreDeclared l.fn.driven (texts (take l.name-index l.names)) l.driven
