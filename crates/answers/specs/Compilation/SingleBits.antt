-- What the outputs of a net of single bits are to have: the bits of what the program means.
use Rattle.std.specs.Prelude.{◌≡◌, ℕ, ◌<◌, Bool, List, length, Some, slice_get}
use Rattle.bit_laws.specs.Bitnet.{HaveBits}
use Rattle.bit_laws.specs.Blast.{blast, output_names}
use Rattle.chw_clock.specs.declared.event.Port.{Port}
use Rattle.chw_layout.specs.Datum.{Datum}
use Rattle.chw_layout.specs.Encodes.{Encodes}
use Rattle.chw_meaning.specs.Means.{Fit, HasPorts, Means}
use Rattle.chw_meaning.specs.Values.{History}
use Rattle.chw_terms.specs.declared.program.Program.{Program}
use Rattle.netlist.specs.declared.net.Flat.{Flat}
use Rattle.type_ports.specs.declared.ports.Leaf.{Leaf}

-- at a history the names of this output have, in the flat net's net of single bits, the bits of a
-- data value: that which the program means there, of the type of the leaf that is the output's port
pub record OutputBitsMean (p : Program) (flat : Flat) (h : History) (k : ℕ) : Type 0 where
  pub value : Datum
  pub means : Means p h k value
  pub leaf : Leaf
  pub is_leaf : slice_get means.outs means.leaf ≡ Some leaf
  pub port : Port
  pub is_port : slice_get flat.ports.outputs k ≡ Some port
  pub bits : List Bool
  pub have : HaveBits flat.ports (blast flat) h (output_names flat.ports port) bits
  pub encodes : Encodes p.datas leaf.payload value bits

-- so it is with each output at each history of the program, and the ports are the program's
pub record BitsMean (p : Program) (flat : Flat) : Type 0 where
  pub ports : HasPorts p flat.ports
  pub each : (h : History) (k : ℕ) → Fit p h → k < length flat.ports.outputs
      → OutputBitsMean p flat h k
