-- the types so far stand at their places
use Rattle.std.proofs.Common.{take}
use Rattle.data_forms.proofs.Tables.{PutTypes}
use Rattle.data_forms.proofs.making.put_forms.Given as goal

abbrev pub invariant-loop-t : goal.invariant-loop-t
invariant-loop-t l = PutTypes l.datas l.initial.forms.items l.forms.items (take l.t-index l.types) l.places.items
