-- Parts of the lines of a text.
use Rattle.std.specs.Prelude.{ℕ, List, [], ◌∷◌, ◌++◌, codes, decimal, Bool, true}
use Rattle.std.specs.Prelude.{if◌then◌else◌}
use Rattle.chw_base.specs.declared.index.DomId.{DomId}
use Rattle.chw_base.specs.declared.index.ModId.{ModId}
use Rattle.chw_base.specs.declared.index.WireId.{WireId}
use Rattle.netlist.specs.declared.net.Module.{Module}
use Rattle.netlist.specs.declared.net.Op2.{Op2}
use Rattle.netlist.specs.declared.net.RamIn.{RamIn}
use Rattle.verilog_text.specs.Names.{clock_name, module_name, use_text, wire_text}
use Rattle.verilog_text.specs.Text.{Scope, always_line, commas, header_items, initial_line, name_in}
use Rattle.verilog_text.specs.Text.{left_text, ram_text, range_text, right_text, sign2}
use Rattle.verilog_text.specs.Text.{signed_text, within_text}

-- the comma and the space before an item, where another stands before it
abbrev pub comma_if : Bool → List ℕ
comma_if before = if before then codes ", " else []

-- items with commas between, and with one before the first where another item stands before it
abbrev pub items_text : Bool → List (List ℕ) → List ℕ
items_text before [] = []
items_text before (text ∷ texts) = comma_if before ++ text ++ items_text true texts

-- an item that stands after another
abbrev pub after_comma : List ℕ → List ℕ
after_comma text = codes ", " ++ text

-- an assignment, up to its value
abbrev pub assign_start : List ℕ → List ℕ
assign_start name = codes "  assign " ++ name ++ codes " = "

-- an operand, read as a signed number or as it is
abbrev pub operand : Bool → List ℕ → List ℕ
operand signed name = if signed then signed_text name else name

-- an operator between its two operands
abbrev pub operation_text : Op2 → List ℕ → List ℕ → List ℕ
operation_text op a b = left_text op a ++ sign2 op ++ right_text op b

-- the first and the last bit of a cut
abbrev pub bounds : ℕ → ℕ → List ℕ
bounds high low = codes "[" ++ decimal high ++ codes ":" ++ decimal low ++ codes "]"

-- the bits of a wire from one place down to another
abbrev pub cut_text : List ℕ → ℕ → ℕ → List ℕ
cut_text name high low = name ++ codes "[" ++ decimal high ++ codes ":" ++ decimal low ++ codes "]"

-- the start of a line of what is done at an edge, up to what is done
abbrev pub edge : List ℕ → List ℕ
edge domain = codes "  always @(posedge " ++ clock_name domain ++ codes ") "

-- the condition of the write of a RAM of so many words
abbrev pub write_start : Scope → ℕ → RamIn → List ℕ
write_start scope count inputs =
    codes "if (" ++ name_in scope inputs.enable ++ codes " & "
    ++ within_text scope inputs.place count ++ codes ") "

-- the two lines of a RAM
abbrev pub ram_lines : Scope → WireId → DomId → List (List Bool) → RamIn → List ℕ
ram_lines scope w domain words inputs =
    initial_line w.number words ++ always_line scope domain (ram_text scope w words inputs)

-- the line of a use of this module, up to its ports
abbrev pub use_start : ℕ → ModId → List ℕ
use_start place m = codes "  " ++ module_name m.number ++ codes " " ++ use_text place ++ codes " ("

-- the declaration of a register, up to its initial bits
abbrev pub register_start : ℕ → ℕ → List ℕ
register_start wire width =
    codes "  reg " ++ range_text width ++ codes " " ++ wire_text wire ++ codes " = "

-- the first line of a module of this name
abbrev pub first_line : Scope → List ℕ → Module → List ℕ
first_line scope name m =
    codes "module " ++ name ++ codes " (" ++ commas (header_items scope m) ++ codes ");\n"
