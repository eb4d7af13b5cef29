-- A text that is written freely, and the net that it denotes; texts that denote no net; and
-- the printed text of a net of two modules.
use Rattle.std.specs.Prelude.{ℕ, List, [], ◌∷◌, ◌++◌, codes}
use Rattle.chw_base.specs.declared.index.DomId.{DomId}
use Rattle.chw_base.specs.declared.index.WireId.{WireId}
use Rattle.chw_bits.specs.Bits.{bits_of}
use Rattle.chw_clock.specs.declared.event.Port.{Port}
use Rattle.netlist.specs.declared.net.Cell.TheVariants.{Bin, Const, Reg, Use}
use Rattle.netlist.specs.declared.net.Net.{Net}
use Rattle.netlist.specs.declared.net.Op2.TheVariants.{Add}
use Rattle.verilog_text.specs.VText.{VText}

abbrev pub wire : ℕ → WireId
wire n = record { number = n }

abbrev pub dom : ℕ → DomId
dom n = record { number = n }

abbrev pub port : List ℕ → Port
port name = record { name = name; dom = dom 0; width = 8 }

-- a register that adds its input at each tick, and begins with 10
abbrev pub sums : Net
sums = record {
  ports = record {
    domains = codes "A" ∷ [];
    resets = [];
    inputs = port (codes "x") ∷ [];
    outputs = port (codes "y") ∷ [];
  };
  modules = record {
    inputs = 1;
    widths = 8 ∷ 8 ∷ 8 ∷ [];
    outputs = wire 2 ∷ [];
    cells = Reg (wire 2) (dom 0) (bits_of 8 10) (wire 1) ∷ Bin (wire 1) Add (wire 2) (wire 0) ∷ [];
  } ∷ [];
}

-- a text of a module: with its output from this bit down to 0, the wire `sum` from bit 7 down to
-- this one, and this last assignment
abbrev pub text_with : (output sum last : List ℕ) → List ℕ
text_with output sum last =
    codes "/* a */module chw_top(input clk_A,input[007:0]i_A_x,output["
    ++ (output ++ (codes ":0]o_A_y);wire[7:"
    ++ (sum ++ (codes "]sum;reg[7:0]kept= 08'hA;assign o_A_y= kept;"
    ++ (codes "always@(posedge clk_A)kept<= sum;assign "
    ++ (last ++ codes ";endmodule// b"))))))

-- comments, few blanks, names of any kind, leading zeros, and items in any order
abbrev pub free_text : List ℕ
free_text = text_with (codes "7") (codes "00") (codes "sum= kept+i_A_x")

-- the free text denotes the net
abbrev pub FreeText : Type 0
FreeText = VText free_text sums

-- the text denotes no net
abbrev pub DenotesNone : List ℕ → Type 0
DenotesNone text = (net : Net) → VText text net → ⊥

-- a name that is declared nowhere
abbrev pub unknown_name : List ℕ
unknown_name = text_with (codes "7") (codes "00") (codes "sum= kept+i_A_z")

-- a register that an assignment drives
abbrev pub assigned_register : List ℕ
assigned_register = text_with (codes "7") (codes "00") (codes "kept= sum")

-- an output of 7 bits that is assigned a wire of 8
abbrev pub narrow_output : List ℕ
narrow_output = text_with (codes "6") (codes "00") (codes "sum= kept+i_A_x")

-- a range that ends at bit 1
abbrev pub range_to_one : List ℕ
range_to_one = text_with (codes "7") (codes "1") (codes "sum= kept+i_A_x")

-- a register that counts: it takes what a module gives, which adds 1
abbrev pub counter : Net
counter = record {
  ports = record {
    domains = codes "Sys" ∷ [];
    resets = [];
    inputs = [];
    outputs = port (codes "o") ∷ [];
  };
  modules = record {
    inputs = 1;
    widths = 8 ∷ 8 ∷ 8 ∷ [];
    outputs = wire 2 ∷ [];
    cells = Const (wire 1) (bits_of 8 1) ∷ Bin (wire 2) Add (wire 0) (wire 1) ∷ [];
  } ∷ record {
    inputs = 0;
    widths = 8 ∷ 8 ∷ [];
    outputs = wire 1 ∷ [];
    cells = Use (record { number = 0 }) (wire 1 ∷ []) (wire 0 ∷ [])
        ∷ Reg (wire 1) (dom 0) (bits_of 8 0) (wire 0) ∷ [];
  } ∷ [];
}

-- its printed text
abbrev pub counter_text : List ℕ
counter_text =
    codes "module m0 (input clk_Sys, input [7:0] i0, output [7:0] y0);\n"
    ++ (codes "  wire [7:0] w1;\n  wire [7:0] w2;\n"
    ++ (codes "  assign w1 = 8'h01;\n  assign w2 = i0 + w1;\n  assign y0 = w2;\nendmodule\n"
    ++ (codes "module chw_top (input clk_Sys, output [7:0] o_Sys_o);\n"
    ++ (codes "  wire [7:0] w0;\n  reg [7:0] w1 = 8'h00;\n"
    ++ (codes "  m0 u0 (.clk_Sys(clk_Sys), .i0(w1), .y0(w0));\n"
    ++ codes "  always @(posedge clk_Sys) w1 <= w0;\n  assign o_Sys_o = w1;\nendmodule\n")))))

-- the text denotes the counter
abbrev pub CounterText : Type 0
CounterText = VText counter_text counter
