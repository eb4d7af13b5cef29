-- What a module of a Verilog text declares: its ports, its wires and its names; and what numbers
-- and literals mean.
use Rattle.std.specs.Prelude.{◌≡◌, ℕ, ◌+◌, ◌<◌, ◌^◌, Bool, List, [], ◌∷◌, ◌++◌, length, map}
use Rattle.std.specs.Prelude.{Option, Some, option_map, slice_get}
use Rattle.std.specs.List.{flat_map}
use Rattle.std.specs.Str.Parse.{digits_value}
use Rattle.chw_base.specs.declared.index.WireId.{WireId}
use Rattle.chw_bits.specs.Bits.{number_of}
use Rattle.name_tables.specs.Names.{place_of}
use Rattle.verilog_text.specs.Source.{Item, Line, Memory, ModuleItem, PortItem, Range, all_of}
use Rattle.verilog_text.specs.Source.Item.{register_item, use_item, wire_item}
use Rattle.verilog_text.specs.Source.PortItem.{input_port, output_port, signal_port}
use Rattle.verilog_text.specs.VForms.{HasParts}

-- the number that decimal digits write
abbrev pub value : List ℕ → ℕ
value digits = digits_value 10 digits

-- how many bits the range [7:0] has
abbrev pub width_of : Range → ℕ
width_of range = value range.from + 1

-- the literal has this size, and its digits write this number, which fits the size
pub record IsLiteralOf (text : List ℕ) (size number : ℕ) : Type 0 where
  pub size_digits : List ℕ
  pub digits : List ℕ
  pub parts : HasParts text size_digits digits
  pub size_is : value size_digits ≡ size
  pub number_is : digits_value 16 digits ≡ number
  pub fits : number < 2 ^ size

-- the literal means these bits
abbrev pub MeansBits : List ℕ → List Bool → Type 0
MeansBits text bits = IsLiteralOf text (length bits) (number_of bits)

-- how a wire is declared: a register with its literal, and with its memory where it shows a RAM
pub data Kind : Type 0 where
  an_input : Kind
  a_wire : Kind
  a_register : (literal : List ℕ) → Option Memory → Kind

-- a wire as it is declared
pub record Declared : Type 0 where
  pub line : Line
  pub kind : Kind

-- the clocks and resets among ports
abbrev pub signals_of : List PortItem → List (List ℕ)
signals_of [] = []
signals_of (signal_port s ∷ ports) = s ∷ signals_of ports
signals_of (_ ∷ ports) = signals_of ports

-- the inputs among ports
abbrev pub inputs_of : List PortItem → List Line
inputs_of [] = []
inputs_of (input_port l ∷ ports) = l ∷ inputs_of ports
inputs_of (_ ∷ ports) = inputs_of ports

-- the outputs among ports
abbrev pub outputs_of : List PortItem → List Line
outputs_of [] = []
outputs_of (output_port l ∷ ports) = l ∷ outputs_of ports
outputs_of (_ ∷ ports) = outputs_of ports

-- clocks and resets come first, then inputs, then outputs
abbrev pub AreInOrder : List PortItem → Type 0
AreInOrder ports =
    ports
    ≡ map signal_port (signals_of ports)
    ++ (map input_port (inputs_of ports) ++ map output_port (outputs_of ports))

abbrev pub port_name : PortItem → List ℕ
port_name (signal_port s) = s
port_name (input_port l) = l.name
port_name (output_port l) = l.name

abbrev pub declared_input : Line → Declared
declared_input l = record { line = l; kind = an_input }

-- the wire that an item declares
abbrev pub declared_by : Item → List Declared
declared_by (wire_item l) = record { line = l; kind = a_wire } ∷ []
declared_by (register_item l text memory) = record { line = l; kind = a_register text memory } ∷ []
declared_by _ = []

abbrev pub name_of : Declared → List ℕ
name_of d = d.line.name

-- the inputs of a module, which are its first wires
abbrev pub input_wires : ModuleItem → List Declared
input_wires m = map declared_input (inputs_of (all_of m.ports))

-- the wires of a module, in the order of their declarations
abbrev pub wires_of : ModuleItem → List Declared
wires_of m = input_wires m ++ flat_map declared_by m.items

-- the name that an item declares and that is no wire's: a memory's, or that of a use
abbrev pub other_names : Item → List (List ℕ)
other_names (register_item l text (Some memory)) = memory.name ∷ []
other_names (use_item u) = u.name ∷ []
other_names _ = []

-- all names that a module declares
abbrev pub names_of : ModuleItem → List (List ℕ)
names_of m =
    signals_of (all_of m.ports)
    ++ (map (λ (l : Line). l.name) (outputs_of (all_of m.ports))
    ++ (map name_of (wires_of m) ++ flat_map other_names m.items))

-- the lines of a module that have a range of bits
abbrev pub lines_of : ModuleItem → List Line
lines_of m = outputs_of (all_of m.ports) ++ map (λ (d : Declared). d.line) (wires_of m)

-- the name is that of the wire of this number
abbrev pub IsNameOf : List Declared → List ℕ → WireId → Type 0
IsNameOf wires name w = place_of (map name_of wires) name ≡ Some w.number

-- the names are those of these wires, one by one
abbrev pub AreNamesOf : List Declared → List (List ℕ) → List WireId → Type 0
AreNamesOf wires [] [] = Unit {0}
AreNamesOf wires (name ∷ names) (w ∷ ws) = IsNameOf wires name w × AreNamesOf wires names ws
AreNamesOf wires _ _ = ⊥

-- the wire of this number is declared so
abbrev pub IsOfKind : List Declared → WireId → Kind → Type 0
IsOfKind wires w kind = option_map (λ d. d.kind) (slice_get wires w.number) ≡ Some kind

-- the wire of this number has so many bits
abbrev pub IsAsWide : List Declared → WireId → ℕ → Type 0
IsAsWide wires w width =
    option_map (λ (d : Declared). width_of d.line.range) (slice_get wires w.number) ≡ Some width
