-- The source that the printed text of a net is.
use Rattle.std.specs.Prelude.{ℕ, ◌-◌, ◌+◌, List, [], ◌∷◌, ◌++◌, length, map, take, drop, codes, decimal}
use Rattle.std.specs.Prelude.{Bool, Option, Some, None, if◌then◌else◌}
use Rattle.chw_base.specs.declared.limits.TheConstants.{ADDRESS_BITS}
use Rattle.chw_base.specs.declared.index.DomId.{DomId}
use Rattle.chw_base.specs.declared.index.WireId.{WireId}
use Rattle.chw_bits.specs.Bits.{bits_of}
use Rattle.chw_clock.specs.Histories.{is_one_of}
use Rattle.chw_clock.specs.declared.event.Ports.{Ports}
use Rattle.netlist.specs.NetValue.{zeros}
use Rattle.netlist.specs.Wires.{driver}
use Rattle.netlist.specs.declared.net.Cell.{Cell}
use Rattle.netlist.specs.declared.net.Cell.TheVariants.{Const, Copy, Join, Cut, Un, Bin, Mux, Reg, Ram, Use}
use Rattle.netlist.specs.declared.net.Module.{Module}
use Rattle.netlist.specs.declared.net.RamIn.{RamIn}
use Rattle.verilog_text.specs.Names.{clock_name, domain_name, input_text, memory_text, module_name, output_text, reset_name, top_name, use_text, wire_text}
use Rattle.verilog_text.specs.Source.{Access, Connection, FirstWord, Item, Line, Memory, ModuleItem, OneOrMore, PortItem, RamItem, Reset}
use Rattle.verilog_text.specs.Source.Item.{assign_item, edge_item, ram_item, register_item, use_item, wire_item}
use Rattle.verilog_text.specs.Source.PortItem.{input_port, output_port, signal_port}
use Rattle.verilog_text.specs.Source.Right.{binary, choice, constant, copy, cut, join, unary}
use Rattle.verilog_text.specs.Text.{Scope, clock_names, inner_scope, literal_text, name_in, top_scope, width_in, zero_word}

-- one of each of a list, by its number, the first of this number
abbrev pub numbered_as : {A B : Type 0} → (ℕ → A → B) → ℕ → List A → List B
numbered_as make k [] = []
numbered_as make k (x ∷ xs) = make k x ∷ numbered_as make (k + 1) xs

-- a list that has something
abbrev pub several : {A : Type 0} → A → List A → OneOrMore A
several none [] = record { first = none; others = [] }
several none (x ∷ xs) = record { first = x; others = xs }

abbrev pub line_of : ℕ → List ℕ → Line
line_of width name = record { range = record { from = decimal (width - 1); to = codes "0" }; name = name }

abbrev pub memory_of : ℕ → ℕ → ℕ → Memory
memory_of wire width count = record {
  width = record { from = decimal (width - 1); to = codes "0" };
  name = memory_text wire;
  places = record { from = codes "0"; to = decimal (count - 1) };
}

-- the declaration of a wire, by the cell that drives it
abbrev pub declared_item : Option Cell → ℕ → ℕ → Item
declared_item (Some (Reg w domain initial a)) wire width = register_item (line_of width (wire_text wire)) (literal_text initial) None
declared_item (Some (Ram w domain words inputs)) wire width =
    register_item (line_of width (wire_text wire)) (literal_text (zeros width)) (Some (memory_of wire width (length words)))
declared_item _ wire width = wire_item (line_of width (wire_text wire))

abbrev pub reset_of : Scope → DomId → List Bool → Option Reset
reset_of scope domain initial =
    if is_one_of scope.resets domain
    then Some (record { name = reset_name (domain_name scope.domains domain); literal = literal_text initial })
    else None

abbrev pub word_of : ℕ → ℕ → List Bool → FirstWord
word_of wire k word = record { memory = memory_text wire; place = decimal k; literal = literal_text word }

abbrev pub access_of : Scope → ℕ → ℕ → WireId → Access
access_of scope wire count a = record {
  address = name_in scope a;
  count = literal_text (bits_of ADDRESS_BITS count);
  memory = memory_text wire;
  again = name_in scope a;
}

abbrev pub no_word : FirstWord
no_word = record { memory = []; place = []; literal = [] }

abbrev pub ram_of : Scope → WireId → DomId → List (List Bool) → RamIn → RamItem
ram_of scope w domain words inputs = record {
  words = several no_word (numbered_as (word_of w.number) 0 words);
  clock = clock_name (domain_name scope.domains domain);
  enable = name_in scope inputs.enable;
  write = access_of scope w.number (length words) inputs.place;
  value = name_in scope inputs.value;
  register = name_in scope w;
  read = access_of scope w.number (length words) inputs.read;
  zeros = literal_text (zero_word words);
}

abbrev pub connection : List ℕ → List ℕ → Connection
connection port wire = record { port = port; wire = wire }

abbrev pub connections_of : Scope → List WireId → List WireId → List Connection
connections_of scope reads drives =
    map (λ (n : List ℕ). connection n n) (clock_names scope.resets 0 scope.domains)
    ++ (numbered_as (λ k (w : WireId). connection (input_text k) (name_in scope w)) 0 reads
    ++ numbered_as (λ k (w : WireId). connection (output_text k) (name_in scope w)) 0 drives)

abbrev pub cell_item : Scope → ℕ → Cell → Item
cell_item scope k (Const w bits) = assign_item (name_in scope w) (constant (literal_text bits))
cell_item scope k (Copy w a) = assign_item (name_in scope w) (copy (name_in scope a))
cell_item scope k (Join w parts) = assign_item (name_in scope w) (join (several [] (map (name_in scope) parts)))
cell_item scope k (Cut w a high low) = assign_item (name_in scope w) (cut (name_in scope a) (record { from = decimal high; to = decimal low }))
cell_item scope k (Un w op a) = assign_item (name_in scope w) (unary op (name_in scope a))
cell_item scope k (Bin w op a b) = assign_item (name_in scope w) (binary op (name_in scope a) (name_in scope b))
cell_item scope k (Mux w c a b) = assign_item (name_in scope w) (choice (name_in scope c) (name_in scope a) (name_in scope b))
cell_item scope k (Reg w domain initial a) = edge_item (record {
  clock = clock_name (domain_name scope.domains domain);
  register = name_in scope w;
  reset = reset_of scope domain initial;
  a = name_in scope a;
})
cell_item scope k (Ram w domain words inputs) = ram_item (ram_of scope w domain words inputs)
cell_item scope k (Use m reads drives) = use_item (record {
  used = module_name m.number;
  name = use_text k;
  connections = several (connection [] []) (connections_of scope reads drives);
})

abbrev pub shown_item : Scope → ℕ → WireId → Item
shown_item scope k w = assign_item (scope.output k) (copy (name_in scope w))

abbrev pub input_of : Scope → ℕ → ℕ → PortItem
input_of scope k width = input_port (line_of width (scope.input k))

abbrev pub output_of : Scope → Module → ℕ → WireId → PortItem
output_of scope m k w = output_port (line_of (width_in m w) (scope.output k))

abbrev pub ports_of : Scope → Module → List PortItem
ports_of scope m =
    map signal_port (clock_names scope.resets 0 scope.domains)
    ++ (numbered_as (input_of scope) 0 (take m.inputs m.widths) ++ numbered_as (output_of scope m) 0 m.outputs)

abbrev pub declared_items : Module → List Item
declared_items m = numbered_as (λ k width. declared_item (driver m.cells k) k width) m.inputs (drop m.inputs m.widths)

abbrev pub items_of : Scope → Module → List Item
items_of scope m = declared_items m ++ (numbered_as (cell_item scope) 0 m.cells ++ numbered_as (shown_item scope) 0 m.outputs)

abbrev pub module_item : Scope → List ℕ → Module → ModuleItem
module_item scope name m = record { name = name; ports = several (signal_port []) (ports_of scope m); items = items_of scope m }

-- a module that isn't the last, by its number, and the last one
abbrev pub inner_item : Ports → ℕ → Module → ModuleItem
inner_item ports k m = module_item (inner_scope ports m) (module_name k) m

abbrev pub top_item : Ports → Module → ModuleItem
top_item ports m = module_item (top_scope ports m) top_name m
