-- The bits of wires in a table, by their numbers.
use Rattle.std.specs.Prelude.{ℕ, Bool, List, [], map, slice_index_or}
use Rattle.chw_base.specs.declared.index.WireId.{WireId}
use Rattle.netlist.specs.Operators.{operator}
use Rattle.netlist.specs.Wires.{read_by}
use Rattle.netlist.specs.declared.net.Cell.{Cell}

-- the bits of the wire of this number
abbrev pub value_in : List (List Bool) → ℕ → List Bool
value_in table w = slice_index_or table w []

-- the bits of these wires
abbrev pub values_in : List (List Bool) → List WireId → List (List Bool)
values_in table wires = map (λ w. value_in table w.number) wires

-- what a cell that keeps nothing gives for what it reads
abbrev pub given_in : List (List Bool) → Cell → List Bool
given_in table cell = operator cell (values_in table (read_by cell))
