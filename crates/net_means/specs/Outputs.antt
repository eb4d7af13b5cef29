-- What the outputs of a flat net are to have: the bits of what the program means.
use Rattle.std.specs.Prelude.{◌≡◌, ℕ, ◌<◌, Bool, List, length, Some, slice_get}
use Rattle.chw_base.specs.declared.index.WireId.{WireId}
use Rattle.type_ports.specs.declared.ports.Leaf.{Leaf}
use Rattle.chw_terms.specs.declared.program.Program.{Program}
use Rattle.chw_layout.specs.Datum.{Datum}
use Rattle.chw_layout.specs.Encodes.{Encodes}
use Rattle.chw_meaning.specs.Means.{Fit, HasPorts, Means}
use Rattle.chw_meaning.specs.Values.{History}
use Rattle.netlist.specs.NetValue.{NetValue}
use Rattle.netlist.specs.declared.net.Flat.{Flat}

-- at a history this output of the flat net has the bits of a data value: that which the program
-- means there, of the type of the leaf that is the output's port
pub record OutputMeans (p : Program) (flat : Flat) (h : History) (k : ℕ) : Type 0 where
  pub value : Datum
  pub means : Means p h k value
  pub leaf : Leaf
  pub is_leaf : slice_get means.outs means.leaf ≡ Some leaf
  pub wire : WireId
  pub is_output : slice_get flat.outputs k ≡ Some wire
  pub bits : List Bool
  pub has : NetValue flat h wire.number bits
  pub encodes : Encodes p.datas leaf.payload value bits

-- so it is with each output at each history of the program; and the net has the program's ports,
-- with an output for each
pub record NetMeans (p : Program) (flat : Flat) : Type 0 where
  pub ports : HasPorts p flat.ports
  pub as_many : length flat.outputs ≡ length flat.ports.outputs
  pub each : (h : History) (k : ℕ) → Fit p h → k < length flat.outputs → OutputMeans p flat h k
