use Rattle.std.proofs.Common.{◌≡◌, map, take}
use Rattle.chw_resolve.specs.Faults.{data_name, names_at}
use Rattle.chw_resolve.proofs.cycles.data_names.Given as goal

abbrev pub invariant-loop-node : goal.invariant-loop-node
invariant-loop-node l = l.names.items ≡ names_at (map data_name l.datas) (take l.node-index l.nodes)
