-- Nets of single bits as the reader gives them, and what breaks the rules on them.
use Rattle.std.specs.Prelude.{ℕ, List, [], map}
use Rattle.bit_laws.specs.Bitnet.{Bitnet, Node}
use Rattle.bit_laws.specs.Bitnet.Node.{latch, table}
use Rattle.blif_text.specs.BlifText.{EachIs, HasLength, HasNames, Said}
use Rattle.blif_text.specs.Faults.{IsFirstWithout}
use Rattle.blif_text.specs.declared.fault.BlifCode.{BlifCode}
use Rattle.blif_text.specs.declared.fault.BlifCode.TheVariants.{B01, B02, B03}
use Rattle.blif_read.specs.declared.bitnet.Bitnet.{Bitnet as ReadBitnet}
use Rattle.blif_read.specs.declared.bitnet.Node.{Node as ReadNode}
use Rattle.blif_read.specs.declared.bitnet.Node.TheVariants.{Latch, Table}

abbrev pub node_of : ReadNode → Node
node_of (Table reads drives rows) = table reads drives rows
node_of (Latch takes drives clock initial) = latch takes drives clock initial

abbrev pub bitnet_of : ReadBitnet → Bitnet
bitnet_of b =
    record { inputs = b.inputs; outputs = b.outputs; nodes = map node_of b.nodes }

-- what statements break first, and the number of the line
abbrev pub IsRuleFault : List Said → BlifCode → ℕ → Type 0
IsRuleFault all B01 number = ⊥
IsRuleFault all B02 number = IsFirstWithout (HasNames all) all number
IsRuleFault all B03 number =
    EachIs (HasNames all) [] all × IsFirstWithout HasLength all number
