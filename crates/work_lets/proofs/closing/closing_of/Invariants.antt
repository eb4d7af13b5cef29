use Rattle.std.proofs.Common.{◌≡◌, map}
use Rattle.work_lets.proofs.Closed.{places_from, left_from}
use Rattle.work_lets.proofs.closing.closing_of.Given as goal

abbrev pub invariant-loop-mark : goal.invariant-loop-mark
invariant-loop-mark l = (l.closing.places.items ≡ places_from 0 (map (λ m. m.now) l.yielded)) × (l.closing.left ≡ left_from 0 (map (λ m. m.now) l.yielded))
