-- each so far is known
use Rattle.std.proofs.Common.{take}
use Rattle.stimulus.specs.Texts.{texts}
use Rattle.blif_read.specs.Naming.{AreKnown}
use Rattle.blif_read.proofs.names.are_known.Given as goal

abbrev pub invariant-loop-name : goal.invariant-loop-name
invariant-loop-name l = AreKnown l.table (texts (take l.name-index l.names))
