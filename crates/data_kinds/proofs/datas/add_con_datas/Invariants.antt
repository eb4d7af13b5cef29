-- what is added so far
use Rattle.std.proofs.Common.{◌≡◌, ◌++◌, take, flat_map}
use Rattle.data_kinds.specs.Named.{datas_in}
use Rattle.data_kinds.proofs.datas.add_con_datas.Given as goal

abbrev pub invariant-loop-field : goal.invariant-loop-field
invariant-loop-field l = l.found.items ≡ l.initial.found.items ++ flat_map datas_in (take l.field-index l.field-items)
