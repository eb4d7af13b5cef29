-- the keys so far agree
use Rattle.wire_classes.specs.Keys.{AreLooked}
use Rattle.wire_classes.proofs.clash.clash.Given as goal

abbrev pub invariant-loop-i : goal.invariant-loop-i
invariant-loop-i l = AreLooked l.keys l.labels l.i l.names l.firsts.items
