-- The nodes of registers and of the words of RAMs, place by place.
use Rattle.std.specs.Prelude.{ℕ, ◌+◌, Bool, true, if◌then◌else◌, List, [], ◌∷◌, ◌++◌, length}
use Rattle.chw_base.specs.declared.index.DomId.{DomId}
use Rattle.chw_bits.specs.Bits.{bits_of}
use Rattle.netlist.specs.declared.net.Flat.{Flat}
use Rattle.netlist.specs.declared.net.RamIn.{RamIn}
use Rattle.bit_laws.specs.BitNames.{bit_name, further}
use Rattle.bit_laws.specs.Bitnet.{Node, clock_of, reset_of}
use Rattle.bit_laws.specs.Bitnet.Node.{latch}
use Rattle.bit_laws.specs.Blast.{RamNames, gate_of, word, word_nodes}
use Rattle.bit_laws.specs.Gates.Gate.{added, address, choice, cleared, either}
use Rattle.bit_blast.specs.Names.{lowest}
use Rattle.bit_blast.specs.Numbering.{spaced}
use Rattle.bit_blast.specs.declared.numbers.Numbers.{Numbers}
use Rattle.bit_blast.specs.declared.rams.Memory.{Memory}

-- one latch of a register with a reset, behind its gate
abbrev pub held_latch : Flat → (w a : ℕ) → DomId → (j : ℕ) → Bool → List Node
held_latch flat w a domain j bit =
    gate_of (if bit then either else cleared)
    (bit_name flat.ports a j ∷ reset_of flat.ports domain ∷ []) (further w j)
    ∷ latch (further w j) (bit_name flat.ports w j) (clock_of flat.ports domain) bit ∷ []

-- the nodes of a word of a RAM at one place: q is the number of its latch, c is shown so far, and v
-- is written. The further node x says that the word is written, the one behind it that it is read.
abbrev pub kept_bit : (k x q : ℕ) → (clock c v : List ℕ) → Bool → List Node
kept_bit k x q clock c v bit =
    latch (further k (q + 1)) (further k q) clock bit
    ∷ gate_of choice (further k x ∷ v ∷ further k q ∷ []) (further k (q + 1))
    ∷ gate_of added (c ∷ further k (x + 1) ∷ further k q ∷ []) (further k (q + 2)) ∷ []

-- the names that a RAM of this width reads
abbrev pub names_read : Flat → RamIn → (width : ℕ) → RamNames
names_read flat inputs width = record {
  read = word flat inputs.read.number;
  enable = word flat inputs.enable.number;
  place = word flat inputs.place.number;
  value = lowest flat inputs.value.number width;
}

-- the nodes of the word at an address
abbrev pub addressed : Flat → Memory → (at x : ℕ) → Numbers → List Bool → List Node
addressed flat memory at x shown bits =
    gate_of (address (true ∷ bits_of (length (word flat memory.inputs.place.number)) at))
    (word flat memory.inputs.enable.number ++ word flat memory.inputs.place.number)
    (further memory.wire.number x)
    ∷ gate_of (address (bits_of (length (word flat memory.inputs.read.number)) at))
    (word flat memory.inputs.read.number) (further memory.wire.number (x + 1))
    ∷ word_nodes memory.wire.number x (clock_of flat.ports memory.domain)
    (spaced memory.wire.number shown memory.width)
    (lowest flat memory.inputs.value.number memory.width) bits
