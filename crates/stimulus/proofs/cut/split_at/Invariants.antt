use Rattle.std.proofs.Common.{◌≡◌, ◌++◌, length}
use Rattle.stimulus.specs.Texts.{split_at, texts}
use Rattle.stimulus.proofs.cut.split_at.Given as goal

abbrev pub invariant-loop-part : goal.invariant-loop-part
invariant-loop-part l = texts l.parts.items ++ split_at l.byte l.left.text.now ≡ split_at l.byte l.text

abbrev pub decreases-loop-part : goal.decreases-loop-part
decreases-loop-part l = length l.left.text.now
