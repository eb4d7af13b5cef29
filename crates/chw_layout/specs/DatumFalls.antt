-- Each child of a node is smaller than what the node stands for.
use Rattle.std.specs.Prelude.{◌+◌, ◌≤◌, List, [], ◌∷◌, max}
use Rattle.std.proofs.Common.{arith}
use denote.Param.Weighed.{most}
use Rattle.chw_layout.specs.Datum.{Datum}
use Rattle.chw_layout.specs.declared.value.DataNode.{DataNode}
use Rattle.chw_layout.specs.declared.value.DataNode.TheVariants.{Scalar as ScalarNode, Data as DataOfNode, Vec as VecNode}
use Rattle.chw_layout.specs.declared.value.DataValue.TheDeep.{deep-DataNode}
use Rattle.chw_layout.specs.DatumView.{datums_of, datum_of}
use Rattle.chw_layout.specs.DatumSize.{datum_size, data_size}

pub most_data : (vs : List Datum) → most (λ v. datum_size v + 1) vs ≤ data_size (datums_of vs) + 1
most_data [] = omega arith
most_data (v ∷ vs) = omega (arith, most_data vs)

pub datum_falls : (n : DataNode) → max (deep-DataNode n) 0 ≤ datum_size (datum_of n)
datum_falls (ScalarNode bits) = omega arith
datum_falls (DataOfNode c vs) = omega (arith, most_data vs.items)
datum_falls (VecNode vs) = omega (arith, most_data vs.items)
