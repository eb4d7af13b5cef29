-- The canonical Verilog text of a net: IEEE 1364-2005, clauses 4.2 (nets and variables), 4.9.3
-- (memories), 6.1 (continuous assignments), 9 (initial and always) and 12 (modules).
use Rattle.std.specs.Prelude.{ℕ, ◌-◌, ◌+◌, ◌==◌, nat_lt, List, [], ◌∷◌, ◌++◌, length, map, take}
use Rattle.std.specs.Prelude.{drop, slice_index_or, codes, decimal}
use Rattle.std.specs.Prelude.{Option, Some, Bool, if◌then◌else◌}
use Rattle.std.specs.List.{concat, flat_map}
use Rattle.chw_base.specs.declared.limits.TheConstants.{ADDRESS_BITS}
use Rattle.chw_base.specs.declared.index.DomId.{DomId}
use Rattle.chw_base.specs.declared.index.WireId.{WireId}
use Rattle.chw_bits.specs.Bits.{bits_of}
use Rattle.chw_bits.specs.Hex.{hex_digits}
use Rattle.chw_clock.specs.Histories.{is_one_of}
use Rattle.chw_clock.specs.declared.event.Ports.{Ports}
use Rattle.verilog_text.specs.Names.{clock_name, domain_name, input_name, output_name, reset_name}
use Rattle.verilog_text.specs.Names.{input_text, memory_text, output_text, use_text, wire_text}
use Rattle.verilog_text.specs.Names.{module_name, top_name}
use Rattle.netlist.specs.NetValue.{zeros}
use Rattle.netlist.specs.Wires.{driver}
use Rattle.netlist.specs.declared.net.Cell.{Cell}
use Rattle.netlist.specs.declared.net.Cell.TheVariants.{Const, Copy, Join, Cut, Un, Bin, Mux}
use Rattle.netlist.specs.declared.net.Cell.TheVariants.{Reg, Ram, Use}
use Rattle.netlist.specs.declared.net.Module.{Module}
use Rattle.netlist.specs.declared.net.Net.{Net}
use Rattle.netlist.specs.declared.net.Op1.{Op1}
use Rattle.netlist.specs.declared.net.Op1.TheVariants.{Not, RedAnd, RedOr, RedXor}
use Rattle.netlist.specs.declared.net.Op2.{Op2}
use Rattle.netlist.specs.declared.net.Op2.TheVariants.{Add, Sub, Mul, And, Or, Xor}
use Rattle.netlist.specs.declared.net.Op2.TheVariants.{Eq, LtU, LtS, Shl, Shr, Sar}
use Rattle.netlist.specs.declared.net.RamIn.{RamIn}

-- texts, with a comma and a space between
abbrev pub commas : List (List ℕ) → List ℕ
commas [] = []
commas (text ∷ texts) = text ++ flat_map (λ t. codes ", " ++ t) texts

-- a text for each of a list, by its number, the first of this number
abbrev pub numbered : {A : Type 0} → (ℕ → A → List ℕ) → ℕ → List A → List (List ℕ)
numbered text k [] = []
numbered text k (x ∷ xs) = text k x ∷ numbered text (k + 1) xs

-- a range of bits down to 0
abbrev pub range_text : ℕ → List ℕ
range_text width = codes "[" ++ decimal (width - 1) ++ codes ":0]"

-- a sized literal
abbrev pub literal_text : List Bool → List ℕ
literal_text bits = decimal (length bits) ++ codes "'h" ++ hex_digits bits

-- what a module's items are printed by: the domains' names, those that have a reset, the number of
-- the module's inputs, which are its first wires, and the names of its inputs and outputs
pub record Scope : Type 0 where
  pub domains : List (List ℕ)
  pub resets : List DomId
  pub inputs : ℕ
  pub input : ℕ → List ℕ
  pub output : ℕ → List ℕ

-- the top has the names of the ports
abbrev pub top_scope : Ports → Module → Scope
top_scope ports top = record {
  domains = ports.domains;
  resets = ports.resets;
  inputs = top.inputs;
  input = λ k. slice_index_or (map (input_name ports.domains) ports.inputs) k [];
  output = λ k. slice_index_or (map (output_name ports.domains) ports.outputs) k [];
}

-- in any other module they are numbered
abbrev pub inner_scope : Ports → Module → Scope
inner_scope ports m = record {
  domains = ports.domains;
  resets = ports.resets;
  inputs = m.inputs;
  input = input_text;
  output = output_text;
}

-- a wire: an input has its own name
abbrev pub name_in : Scope → WireId → List ℕ
name_in scope w = if nat_lt w.number scope.inputs then scope.input w.number else wire_text w.number

-- the clock of the domain of this number, and its reset where it has one
abbrev pub domain_names : List DomId → ℕ → List ℕ → List (List ℕ)
domain_names resets k domain =
    clock_name domain
    ∷ (if is_one_of resets (record { number = k }) then reset_name domain ∷ [] else [])

-- the clocks of the domains from this number on, each with its reset after it where it has one
abbrev pub clock_names : List DomId → ℕ → List (List ℕ) → List (List ℕ)
clock_names resets k [] = []
clock_names resets k (domain ∷ domains) =
    domain_names resets k domain ++ clock_names resets (k + 1) domains

abbrev pub sign1 : Op1 → List ℕ
sign1 Not = codes "~"
sign1 RedAnd = codes "&"
sign1 RedOr = codes "|"
sign1 RedXor = codes "^"

abbrev pub sign2 : Op2 → List ℕ
sign2 Add = codes " + "
sign2 Sub = codes " - "
sign2 Mul = codes " * "
sign2 And = codes " & "
sign2 Or = codes " | "
sign2 Xor = codes " ^ "
sign2 Eq = codes " == "
sign2 LtU = codes " < "
sign2 LtS = codes " < "
sign2 Shl = codes " << "
sign2 Shr = codes " >> "
sign2 Sar = codes " >>> "

abbrev pub signed_text : List ℕ → List ℕ
signed_text name = codes "$signed(" ++ name ++ codes ")"

-- the left and the right operand
abbrev pub left_text : Op2 → List ℕ → List ℕ
left_text LtS name = signed_text name
left_text Sar name = signed_text name
left_text _ name = name

abbrev pub right_text : Op2 → List ℕ → List ℕ
right_text LtS name = signed_text name
right_text _ name = name

-- a line of a module
abbrev pub line : List ℕ → List ℕ
line text = codes "  " ++ text ++ codes "\n"

abbrev pub assign_line : List ℕ → List ℕ → List ℕ
assign_line name value = line (codes "assign " ++ name ++ codes " = " ++ value ++ codes ";")

-- what is done at each edge of a domain's clock
abbrev pub always_line : Scope → DomId → List ℕ → List ℕ
always_line scope domain action =
    line (codes "always @(posedge " ++ clock_name (domain_name scope.domains domain) ++ codes ") "
    ++ action)

-- a wire takes a value at an edge
abbrev pub taking_text : List ℕ → List ℕ → List ℕ
taking_text name value = name ++ codes " <= " ++ value ++ codes ";"

abbrev pub choice_text : List ℕ → List ℕ → List ℕ → List ℕ
choice_text condition a b = condition ++ codes " ? " ++ a ++ codes " : " ++ b

-- what a register takes at an edge: its input, or its initial bits where its domain has a reset
-- that is asserted
abbrev pub taken_text : Scope → DomId → List Bool → WireId → List ℕ
taken_text scope domain initial a =
    if is_one_of scope.resets domain
    then choice_text (reset_name (domain_name scope.domains domain)) (literal_text initial)
    (name_in scope a)
    else name_in scope a

-- the word of a memory at a place
abbrev pub word_text : ℕ → List ℕ → List ℕ
word_text wire place = memory_text wire ++ codes "[" ++ place ++ codes "]"

-- the initial word of this number
abbrev pub initial_text : ℕ → ℕ → List Bool → List ℕ
initial_text wire k word =
    word_text wire (decimal k) ++ codes " = " ++ literal_text word ++ codes "; "

-- the line of a RAM's initial words
abbrev pub initial_line : ℕ → List (List Bool) → List ℕ
initial_line wire words =
    line (codes "initial begin " ++ concat (numbered (initial_text wire) 0 words) ++ codes "end")

-- the address is one of so many words
abbrev pub within_text : Scope → WireId → ℕ → List ℕ
within_text scope address count =
    codes "(" ++ name_in scope address ++ codes " < " ++ literal_text (bits_of ADDRESS_BITS count)
    ++ codes ")"

-- the write of a RAM of so many words
abbrev pub write_text : Scope → ℕ → ℕ → RamIn → List ℕ
write_text scope wire count inputs =
    codes "if (" ++ name_in scope inputs.enable ++ codes " & "
    ++ within_text scope inputs.place count ++ codes ") "
    ++ taking_text (word_text wire (name_in scope inputs.place)) (name_in scope inputs.value)

-- zeros of the width of a RAM's words
abbrev pub zero_word : List (List Bool) → List Bool
zero_word words = zeros (length (slice_index_or words 0 []))

-- what a RAM with these initial words shows next: the word that is read, and zeros where there is
-- none
abbrev pub shown_text : Scope → ℕ → List (List Bool) → WireId → List ℕ
shown_text scope wire words read =
    choice_text (within_text scope read (length words)) (word_text wire (name_in scope read))
    (literal_text (zero_word words))

-- what a RAM does at an edge
abbrev pub ram_text : Scope → WireId → List (List Bool) → RamIn → List ℕ
ram_text scope w words inputs =
    codes "begin " ++ write_text scope w.number (length words) inputs ++ codes " "
    ++ taking_text (name_in scope w) (shown_text scope w.number words inputs.read) ++ codes " end"

-- a port of a used module, and what is at it
abbrev pub port_text : List ℕ → List ℕ → List ℕ
port_text port name = codes "." ++ port ++ codes "(" ++ name ++ codes ")"

-- the ports of a used module: the clocks with their resets, the inputs, the outputs
abbrev pub use_ports : Scope → List WireId → List WireId → List (List ℕ)
use_ports scope reads drives =
    map (λ name. port_text name name) (clock_names scope.resets 0 scope.domains)
    ++ (numbered (λ k w. port_text (input_text k) (name_in scope w)) 0 reads
    ++ numbered (λ k w. port_text (output_text k) (name_in scope w)) 0 drives)

-- the line of the cell of this number; a RAM has two
abbrev pub cell_line : Scope → ℕ → Cell → List ℕ
cell_line scope k (Const w bits) = assign_line (name_in scope w) (literal_text bits)
cell_line scope k (Copy w a) = assign_line (name_in scope w) (name_in scope a)
cell_line scope k (Join w parts) =
    assign_line (name_in scope w) (codes "{" ++ commas (map (name_in scope) parts) ++ codes "}")
cell_line scope k (Cut w a high low) =
    assign_line (name_in scope w)
    (name_in scope a ++ codes "[" ++ decimal high ++ codes ":" ++ decimal low ++ codes "]")
cell_line scope k (Un w op a) = assign_line (name_in scope w) (sign1 op ++ name_in scope a)
cell_line scope k (Bin w op a b) =
    assign_line (name_in scope w)
    (left_text op (name_in scope a) ++ sign2 op ++ right_text op (name_in scope b))
cell_line scope k (Mux w c a b) =
    assign_line (name_in scope w)
    (choice_text (name_in scope c) (name_in scope a) (name_in scope b))
cell_line scope k (Reg w domain initial a) =
    always_line scope domain (taking_text (name_in scope w) (taken_text scope domain initial a))
cell_line scope k (Ram w domain words inputs) =
    initial_line w.number words ++ always_line scope domain (ram_text scope w words inputs)
cell_line scope k (Use m reads drives) =
    line (module_name m.number ++ codes " " ++ use_text k ++ codes " ("
    ++ commas (use_ports scope reads drives) ++ codes ");")

abbrev pub wire_declaration : ℕ → ℕ → List ℕ
wire_declaration wire width =
    line (codes "wire " ++ range_text width ++ codes " " ++ wire_text wire ++ codes ";")

-- a register with its initial bits
abbrev pub register_declaration : ℕ → ℕ → List Bool → List ℕ
register_declaration wire width initial =
    line (codes "reg " ++ range_text width ++ codes " " ++ wire_text wire ++ codes " = "
    ++ literal_text initial ++ codes ";")

-- a memory of so many words
abbrev pub memory_declaration : ℕ → ℕ → ℕ → List ℕ
memory_declaration wire width count =
    line (codes "reg " ++ range_text width ++ codes " " ++ memory_text wire ++ codes " [0:"
    ++ decimal (count - 1) ++ codes "];")

-- the declaration of a wire, by the cell that drives it
abbrev pub declaration : Option Cell → ℕ → ℕ → List ℕ
declaration (Some (Reg w domain initial a)) wire width = register_declaration wire width initial
declaration (Some (Ram w domain words inputs)) wire width =
    register_declaration wire width (zeros width) ++ memory_declaration wire width (length words)
declaration _ wire width = wire_declaration wire width

-- the declarations of the wires that are no inputs
abbrev pub declarations : Module → List ℕ
declarations m =
    concat (numbered (λ k width. declaration (driver m.cells k) k width) m.inputs
    (drop m.inputs m.widths))

abbrev pub clock_item : List ℕ → List ℕ
clock_item name = codes "input " ++ name

abbrev pub input_item : ℕ → List ℕ → List ℕ
input_item width name = codes "input " ++ range_text width ++ codes " " ++ name

abbrev pub output_item : ℕ → List ℕ → List ℕ
output_item width name = codes "output " ++ range_text width ++ codes " " ++ name

abbrev pub width_in : Module → WireId → ℕ
width_in m w = slice_index_or m.widths w.number 0

-- the ports of a module: the clocks with their resets, the inputs, the outputs
abbrev pub header_items : Scope → Module → List (List ℕ)
header_items scope m =
    map clock_item (clock_names scope.resets 0 scope.domains)
    ++ (numbered (λ k width. input_item width (scope.input k)) 0 (take m.inputs m.widths)
    ++ numbered (λ k w. output_item (width_in m w) (scope.output k)) 0 m.outputs)

-- one assignment for each output
abbrev pub output_lines : Scope → List WireId → List ℕ
output_lines scope outputs =
    concat (numbered (λ k w. assign_line (scope.output k) (name_in scope w)) 0 outputs)

-- a module of this name
abbrev pub module_text : Scope → List ℕ → Module → List ℕ
module_text scope name m =
    codes "module " ++ (name ++ (codes " (" ++ (commas (header_items scope m) ++ (codes ");\n"
    ++ (declarations m
    ++ (concat (numbered (cell_line scope) 0 m.cells)
    ++ (output_lines scope m.outputs ++ codes "endmodule\n")))))))

-- the module of this number of a net of so many: the last one is the top
abbrev pub text_of_module : Ports → ℕ → ℕ → Module → List ℕ
text_of_module ports count k m =
    if k + 1 == count
    then module_text (top_scope ports m) top_name m
    else module_text (inner_scope ports m) (module_name k) m

-- the text of a net: its modules in order
abbrev pub net_text : Net → List ℕ
net_text net = concat (numbered (text_of_module net.ports (length net.modules)) 0 net.modules)
