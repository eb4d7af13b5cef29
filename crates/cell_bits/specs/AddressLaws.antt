-- What is promised of the cells of addresses.
use Rattle.std.specs.Prelude.{◌≡◌, ℕ, ◌≤◌, min, Bool, List, length}
use Rattle.chw_base.specs.declared.index.WireId.{WireId}
use Rattle.chw_base.specs.declared.limits.TheConstants.{ADDRESS_BITS}
use Rattle.chw_bits.specs.Bits.{number_of, bits_of}
use Rattle.chw_clock.specs.declared.event.Event.{Event}
use Rattle.netlist.specs.declared.net.Net.{Net}
use Rattle.net_built.specs.Memories.{past_all, address, address_wire}
use Rattle.use_laws.specs.ValueIn.{ValueIn}
use Rattle.cell_bits.specs.Bearing.{HasCells, Bears}

-- the address of 12 bits for one of these bits: its number, and a number that no memory reaches in
-- place of greater ones
abbrev pub narrow : List Bool → List Bool
narrow bits = bits_of ADDRESS_BITS (min (number_of bits) past_all)

-- the cells of an address of k bits give that address
abbrev pub AddressesBear : Type 0
AddressesBear =
    (net : Net) (path : List ℕ) (h : List Event) (k n : ℕ) (a : List WireId) (bits : List Bool)
    → Bears net path h a bits → length bits ≡ k → HasCells net path (address k n a).cells
    → ValueIn net path h (address_wire k n a).number (narrow bits)

-- its number is that number
abbrev pub NarrowNumbers : Type 0
NarrowNumbers = (bits : List Bool) → number_of (narrow bits) ≡ min (number_of bits) past_all

-- and that of the address itself, where this has no more bits
abbrev pub NarrowKeeps : Type 0
NarrowKeeps =
    (bits : List Bool) → length bits ≤ ADDRESS_BITS → number_of (narrow bits) ≡ number_of bits
