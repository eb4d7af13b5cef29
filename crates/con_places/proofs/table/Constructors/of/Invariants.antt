use Rattle.con_places.specs.Places.{AreOfFirst}
use Rattle.con_places.proofs.table.Constructors.of.Given as goal

-- the constructors of the data types so far have their places
abbrev pub invariant-loop-number : goal.invariant-loop-number
invariant-loop-number l = AreOfFirst l.datas l.number l.places.items
