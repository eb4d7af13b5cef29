-- Small flat nets, and the nets of single bits that they become.
use Rattle.std.specs.Prelude.{◌≡◌, ℕ, true, List, [], ◌∷◌, ◌++◌, codes}
use Rattle.chw_bits.specs.Bits.{bits_of}
use Rattle.chw_clock.specs.declared.event.Port.{Port}
use Rattle.netlist.specs.Examples.{dom, wire}
use Rattle.netlist.specs.declared.net.Cell.{Cell}
use Rattle.netlist.specs.declared.net.Cell.TheVariants.{Bin, Copy, Reg}
use Rattle.netlist.specs.declared.net.Flat.{Flat}
use Rattle.netlist.specs.declared.net.Op2.TheVariants.{Add, Shl}
use Rattle.bit_laws.specs.Bitnet.{Bitnet, Node}
use Rattle.bit_laws.specs.Bitnet.Node.{latch, table}
use Rattle.bit_laws.specs.Blast.{blast, nodes_of}

abbrev pub port : List ℕ → ℕ → Port
port name width = record { name = name; dom = dom 0; width = width }

-- a register of one bit that begins with 1 and takes a copy of the input
abbrev pub one_register : Flat
one_register = record {
  ports = record {
    domains = codes "Sys" ∷ [];
    resets = [];
    inputs = port (codes "x") 1 ∷ [];
    outputs = port (codes "o") 1 ∷ [];
  };
  widths = 1 ∷ 1 ∷ 1 ∷ [];
  outputs = wire 2 ∷ [];
  cells = Copy (wire 1) (wire 0) ∷ Reg (wire 2) (dom 0) (bits_of 1 1) (wire 1) ∷ [];
}

-- a buffer: the row is `1`
abbrev pub buffered : (source drives : List ℕ) → Node
buffered source drives = table (source ∷ []) drives (codes "1" ∷ [])

abbrev pub register_bits : Bitnet
register_bits = record {
  inputs = codes "clk_Sys" ∷ codes "i_Sys_x_0" ∷ [];
  outputs = codes "o_Sys_o_0" ∷ [];
  nodes = buffered (codes "i_Sys_x_0") (codes "w1_0")
      ∷ latch (codes "w1_0") (codes "w2_0") (codes "clk_Sys") true
      ∷ buffered (codes "w2_0") (codes "o_Sys_o_0") ∷ [];
}

abbrev pub RegisterIsALatch : Type 0
RegisterIsALatch = blast one_register ≡ register_bits

-- a flat net of one domain without inputs or outputs, with wires of these widths and this cell
abbrev pub net_of : List ℕ → Cell → Flat
net_of widths cell = record {
  ports = record { domains = codes "Sys" ∷ []; resets = []; inputs = []; outputs = [] };
  widths = widths;
  outputs = [];
  cells = cell ∷ [];
}

abbrev pub sum_rows : List (List ℕ)
sum_rows = codes "100" ∷ codes "010" ∷ codes "001" ∷ codes "111" ∷ []

abbrev pub carry_rows : List (List ℕ)
carry_rows = codes "11-" ∷ codes "1-1" ∷ codes "-11" ∷ []

-- a bit of a sum, and the carry behind it
abbrev pub sum_of : (x y carry out next : List ℕ) → List Node
sum_of x y carry out next =
    table (x ∷ y ∷ carry ∷ []) out sum_rows ∷ table (x ∷ y ∷ carry ∷ []) next carry_rows ∷ []

-- a sum of three bits: the first carry is 0
abbrev pub SumOfThreeBits : Type 0
SumOfThreeBits =
    nodes_of (net_of (3 ∷ 3 ∷ 3 ∷ []) (Bin (wire 2) Add (wire 0) (wire 1)))
    (Bin (wire 2) Add (wire 0) (wire 1))
    ≡ table [] (codes "w2_x0") []
    ∷ (sum_of (codes "w0_0") (codes "w1_0") (codes "w2_x0") (codes "w2_0") (codes "w2_x1")
    ++ sum_of (codes "w0_1") (codes "w1_1") (codes "w2_x1") (codes "w2_1") (codes "w2_x2")
    ++ sum_of (codes "w0_2") (codes "w1_2") (codes "w2_x2") (codes "w2_2") (codes "w2_x3"))

-- by the first bit the second one or the third
abbrev pub chosen : (c x y drives : List ℕ) → Node
chosen c x y drives = table (c ∷ x ∷ y ∷ []) drives (codes "11-" ∷ codes "0-1" ∷ [])

-- two bits moved up by two bits: by one place or not, and then by two or not
abbrev pub ShiftOfTwoBits : Type 0
ShiftOfTwoBits =
    nodes_of (net_of (2 ∷ 2 ∷ 2 ∷ []) (Bin (wire 2) Shl (wire 0) (wire 1)))
    (Bin (wire 2) Shl (wire 0) (wire 1))
    ≡ table [] (codes "w2_x0") []
    ∷ chosen (codes "w1_0") (codes "w2_x0") (codes "w0_0") (codes "w2_x1")
    ∷ chosen (codes "w1_0") (codes "w0_0") (codes "w0_1") (codes "w2_x2")
    ∷ chosen (codes "w1_1") (codes "w2_x0") (codes "w2_x1") (codes "w2_x3")
    ∷ chosen (codes "w1_1") (codes "w2_x0") (codes "w2_x2") (codes "w2_x4")
    ∷ buffered (codes "w2_x3") (codes "w2_0") ∷ buffered (codes "w2_x4") (codes "w2_1") ∷ []
