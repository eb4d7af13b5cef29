-- what is added, with what is left, is all
use Rattle.std.proofs.Common.{◌≡◌, ◌++◌, drop}
use Rattle.chw_types.specs.TypeView.{trees_of}
use Rattle.data_kinds.specs.Named.{datas_in_all}
use Rattle.data_kinds.proofs.datas.+add_datas.Given as goal

abbrev pub invariant-loop-arg : goal.invariant-loop-arg
invariant-loop-arg l = l.found.items ++ datas_in_all (trees_of (drop l.arg-index l.arg-items)) ≡ l.initial.found.items ++ datas_in_all (trees_of l.arg-items)
