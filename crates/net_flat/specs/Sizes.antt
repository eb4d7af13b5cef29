-- How many flat wires instances have, counted up to one over the limit.
use Rattle.std.specs.Prelude.{◌≡◌, ℕ, ◌+◌, ◌<◌, List, length, min, slice_index}
use Rattle.chw_base.specs.declared.limits.TheConstants.{FLAT_WIRES}
use Rattle.net_flat.specs.Flattened.{widths_in}
use Rattle.netlist.specs.declared.net.Cell.{Cell}
use Rattle.netlist.specs.declared.net.Cell.TheVariants.{Use}
use Rattle.netlist.specs.declared.net.Net.{Net}

-- one over the limit stands for all that is more
abbrev pub capped : ℕ → ℕ
capped wires = min wires (FLAT_WIRES + 1)

-- the size of the module that a cell uses, and none if the cell is no use
abbrev pub size_in : List ℕ → Cell → ℕ
size_in sizes (Use k reads drives) = slice_index sizes k.number
size_in sizes _ = 0

-- these are the sizes of the first modules of the net
abbrev pub AreSizes : Net → List ℕ → Type 0
AreSizes net sizes =
    (k : ℕ) → k < length sizes → slice_index sizes k ≡ capped (length (widths_in net k))
