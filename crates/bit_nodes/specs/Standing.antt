-- The names, nodes and nets of single bits that the program's values stand for.
use Rattle.std.specs.Prelude.{ℕ, true, List, [], ◌∷◌, ◌++◌, length, map, slice_index_or}
use Rattle.chw_bits.specs.Bits.{bits_of}
use Rattle.chw_clock.specs.declared.event.Ports.{Ports}
use Rattle.netlist.specs.declared.net.Flat.{Flat}
use Rattle.verilog_text.specs.Names.{output_name}
use Rattle.bit_laws.specs.BitNames.{bit_name, further, place_name}
use Rattle.bit_laws.specs.Bitnet.{Bitnet, Node, clock_of, reset_of}
use Rattle.bit_laws.specs.Bitnet.Node.{latch}
use Rattle.bit_laws.specs.Blast.{blast, gate_of, word}
use Rattle.bit_laws.specs.Gates.{Gate}
use Rattle.bit_laws.specs.Gates.Gate.{added, address, alike, always, both, buffer, choice, cleared}
use Rattle.bit_laws.specs.Gates.Gate.{differing, either, inverse, less, most, never, odd}
use Rattle.bit_nodes.specs.declared.nodes.BitGate.{BitGate}
use Rattle.bit_nodes.specs.declared.nodes.BitGate.TheVariants.{Never, Always, Buffer, Inverse, Both}
use Rattle.bit_nodes.specs.declared.nodes.BitGate.TheVariants.{Either, Differing, Alike, Cleared}
use Rattle.bit_nodes.specs.declared.nodes.BitGate.TheVariants.{Odd, Most, Choice, Less, Added}
use Rattle.bit_nodes.specs.declared.nodes.BitGate.TheVariants.{Written, Read}
use Rattle.bit_nodes.specs.declared.nodes.BitName.{BitName}
use Rattle.bit_nodes.specs.declared.nodes.BitName.TheVariants.{Bit, Further, Output, Reset}
use Rattle.bit_nodes.specs.declared.nodes.BitNode.{BitNode}
use Rattle.bit_nodes.specs.declared.nodes.BitNode.TheVariants.{Table, Latch}

-- the name of the output of this number
abbrev pub output_at : Ports → ℕ → List ℕ
output_at ports k = slice_index_or (map (output_name ports.domains) ports.outputs) k []

-- the name itself
abbrev pub name_of : Flat → BitName → List ℕ
name_of flat (Bit wire place) = bit_name flat.ports wire.number place
name_of flat (Further wire number) = further wire.number number
name_of flat (Output port place) = place_name (output_at flat.ports port) place
name_of flat (Reset domain) = reset_of flat.ports domain

-- the gate, without what it reads
abbrev pub kind_of : Flat → BitGate → Gate
kind_of flat Never = never
kind_of flat Always = always
kind_of flat (Buffer a) = buffer
kind_of flat (Inverse a) = inverse
kind_of flat (Both a b) = both
kind_of flat (Either a b) = either
kind_of flat (Differing a b) = differing
kind_of flat (Alike a b) = alike
kind_of flat (Cleared a b) = cleared
kind_of flat (Odd a b c) = odd
kind_of flat (Most a b c) = most
kind_of flat (Choice a b c) = choice
kind_of flat (Less a b c) = less
kind_of flat (Added a b c) = added
kind_of flat (Written enable place at) =
    address (true ∷ bits_of (length (word flat place.number)) at)
kind_of flat (Read from at) = address (bits_of (length (word flat from.number)) at)

-- the names that it reads, in order
abbrev pub reads_of : Flat → BitGate → List (List ℕ)
reads_of flat Never = []
reads_of flat Always = []
reads_of flat (Buffer a) = name_of flat a ∷ []
reads_of flat (Inverse a) = name_of flat a ∷ []
reads_of flat (Both a b) = name_of flat a ∷ name_of flat b ∷ []
reads_of flat (Either a b) = name_of flat a ∷ name_of flat b ∷ []
reads_of flat (Differing a b) = name_of flat a ∷ name_of flat b ∷ []
reads_of flat (Alike a b) = name_of flat a ∷ name_of flat b ∷ []
reads_of flat (Cleared a b) = name_of flat a ∷ name_of flat b ∷ []
reads_of flat (Odd a b c) = name_of flat a ∷ name_of flat b ∷ name_of flat c ∷ []
reads_of flat (Most a b c) = name_of flat a ∷ name_of flat b ∷ name_of flat c ∷ []
reads_of flat (Choice a b c) = name_of flat a ∷ name_of flat b ∷ name_of flat c ∷ []
reads_of flat (Less a b c) = name_of flat a ∷ name_of flat b ∷ name_of flat c ∷ []
reads_of flat (Added a b c) = name_of flat a ∷ name_of flat b ∷ name_of flat c ∷ []
reads_of flat (Written enable place at) = word flat enable.number ++ word flat place.number
reads_of flat (Read from at) = word flat from.number

-- the node by its names
abbrev pub node_of : Flat → BitNode → Node
node_of flat (Table gate drives) =
    gate_of (kind_of flat gate) (reads_of flat gate) (name_of flat drives)
node_of flat (Latch takes drives domain initial) =
    latch (name_of flat takes) (name_of flat drives) (clock_of flat.ports domain) initial

-- the net of these nodes, with the inputs and outputs of all nets of single bits of the flat net
abbrev pub bitnet_of : Flat → List BitNode → Bitnet
bitnet_of flat nodes = record (blast flat) { nodes = map (node_of flat) nodes }
