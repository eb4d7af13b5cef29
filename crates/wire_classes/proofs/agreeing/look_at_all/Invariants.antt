-- the keys so far agree
use Rattle.std.proofs.Common.{map}
use Rattle.wire_classes.specs.Keys.{cell_key}
use Rattle.wire_classes.specs.Seen.{AreSeen}
use Rattle.wire_classes.proofs.agreeing.look_at_all.Given as goal

abbrev pub invariant-loop-place : goal.invariant-loop-place
invariant-loop-place l = AreSeen (map (cell_key l.of) l.flat.cells) l.labels l.place l.seen.firsts
