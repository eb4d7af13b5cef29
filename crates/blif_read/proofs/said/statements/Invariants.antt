-- the statements so far, and what is left of the text
use Rattle.std.proofs.Common.{length}
use Rattle.blif_read.specs.Reading.{Reached}
use Rattle.blif_read.proofs.said.statements.Given as goal

abbrev pub invariant-loop-all : goal.invariant-loop-all
invariant-loop-all l = Reached l.text l.at l.all.items

abbrev pub decreases-loop-all : goal.decreases-loop-all
decreases-loop-all l = length l.at.left.text.now
