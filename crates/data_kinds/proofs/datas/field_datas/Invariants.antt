-- what is found so far
use Rattle.std.proofs.Common.{◌≡◌, take, flat_map}
use Rattle.data_kinds.specs.Named.{con_datas}
use Rattle.data_kinds.proofs.datas.field_datas.Given as goal

abbrev pub invariant-loop-con : goal.invariant-loop-con
invariant-loop-con l = l.found.items ≡ flat_map con_datas (take l.con-index l.con-items)
