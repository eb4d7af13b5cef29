-- The plain trees that the nodes of values stand for.
use Rattle.std.specs.Prelude.{List, [], ◌∷◌}
use Rattle.chw_layout.specs.Datum.{Datum, word, built, elements, Datums, no_data, datum_and}
use Rattle.chw_layout.specs.declared.value.DataNode.{DataNode}
use Rattle.chw_layout.specs.declared.value.DataNode.TheVariants.{Scalar as ScalarNode, Data as DataOfNode, Vec as VecNode}

abbrev pub datums_of : List Datum → Datums
datums_of [] = no_data
datums_of (v ∷ vs) = datum_and v (datums_of vs)

abbrev pub datum_of : DataNode → Datum
datum_of (ScalarNode bits) = word bits
datum_of (DataOfNode c vs) = built c.number (datums_of vs.items)
datum_of (VecNode vs) = elements (datums_of vs.items)
