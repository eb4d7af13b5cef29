use Rattle.std.proofs.Common.{length, reverse}
use Rattle.data_kinds.proofs.Searches.{circuit_told}
use Rattle.data_kinds.proofs.circuits.is_circuit.Goals as goal

pub returns : goal.returns
returns c =
    circuit_told c.args.datas.now (length c.args.domains.now) (reverse c.args.scope.now) c.args.t.now c.kind_of.result c.is_cir.result c.is_cir.ensures c.kind_of.ensures.kind c.kind_of.ensures.fault
