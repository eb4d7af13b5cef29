use Rattle.std.proofs.Common.{◌≡◌, ◌++◌}
use Rattle.con_places.specs.Places.{places_of}
use Rattle.con_places.proofs.table.push_places.Given as goal

abbrev pub invariant-loop-place : goal.invariant-loop-place
invariant-loop-place l = l.places.items ≡ l.initial.places.items ++ places_of l.of l.place
