-- What a module of a tree declares, and the ports of a text.
use Rattle.std.specs.Prelude.{ℕ, ◌+◌, ◌-◌, Bool, List, [], ◌∷◌, ◌++◌, drop, map}
use Rattle.std.specs.Prelude.{Some, None, codes, if◌then◌else◌}
use Rattle.std.specs.List.{flat_map}
use Rattle.std.specs.Option.{unwrap_or}
use Rattle.chw_base.specs.declared.index.DomId.{DomId}
use Rattle.chw_clock.specs.declared.event.Port.{Port as NetPort}
use Rattle.chw_clock.specs.declared.event.Ports.{Ports}
use Rattle.name_tables.specs.Names.{place_of}
use Rattle.verilog_rules.specs.Texts.{before_line, begins_with, behind_line, width}
use Rattle.verilog_rules.specs.declared.resolved.Kind.TheVariants as kind
use Rattle.verilog_rules.specs.declared.resolved.Wire.{Wire}
use Rattle.verilog_tree.specs.Sources.{bytes_of}
use Rattle.verilog_tree.specs.declared.item.Item.{Item}
use Rattle.verilog_tree.specs.declared.item.Item.TheVariants as item
use Rattle.verilog_tree.specs.declared.module.Module.{Module}
use Rattle.verilog_tree.specs.declared.module.Port.{Port}
use Rattle.verilog_tree.specs.declared.module.Port.TheVariants.{Input, Output, Signal}
use Rattle.verilog_tree.specs.declared.module.Tree.{Tree}
use Rattle.verilog_tree.specs.declared.word.Line.{Line}
use Rattle.verilog_tree.specs.declared.word.Word.{Word}

-- the modules of a text, the last one last
abbrev pub modules_of : Tree → List Module
modules_of tree = tree.earlier ++ tree.last ∷ []

-- the ports of a module
abbrev pub ports_in : Module → List Port
ports_in m = m.first ∷ m.others

-- the name of a port
abbrev pub port_word : Port → Word
port_word (Signal s) = s
port_word (Input l) = l.name
port_word (Output l) = l.name

-- the clocks and resets among ports
abbrev pub signals_of : List Port → List Word
signals_of [] = []
signals_of (Signal s ∷ ports) = s ∷ signals_of ports
signals_of (_ ∷ ports) = signals_of ports

-- the inputs among ports
abbrev pub inputs_of : List Port → List Line
inputs_of [] = []
inputs_of (Input l ∷ ports) = l ∷ inputs_of ports
inputs_of (_ ∷ ports) = inputs_of ports

-- the outputs among ports
abbrev pub outputs_of : List Port → List Line
outputs_of [] = []
outputs_of (Output l ∷ ports) = l ∷ outputs_of ports
outputs_of (_ ∷ ports) = outputs_of ports

-- the name of a line
abbrev pub line_name : Line → List ℕ
line_name l = bytes_of l.name

-- the name of a wire
abbrev pub wire_name : Wire → List ℕ
wire_name w = line_name w.line

-- the wire of an input
abbrev pub input_wire : Line → Wire
input_wire l = record { line = l; kind = kind.Input }

-- the wires that an item declares: one, or none
abbrev pub wires_by : Item → List Wire
wires_by (item.Wire l) = record { line = l; kind = kind.Plain } ∷ []
wires_by (item.Register l literal memory) =
    record { line = l; kind = kind.Register literal memory } ∷ []
wires_by _ = []

-- the inputs of a module, which are its first wires
abbrev pub input_wires : Module → List Wire
input_wires m = map input_wire (inputs_of (ports_in m))

-- the wires of a module, in the order of their declarations
abbrev pub wires_of : Module → List Wire
wires_of m = input_wires m ++ flat_map wires_by m.items

-- the names that an item declares
abbrev pub words_by : Item → List Word
words_by (item.Wire l) = l.name ∷ []
words_by (item.Register l literal None) = l.name ∷ []
words_by (item.Register l literal (Some memory)) = l.name ∷ memory.name ∷ []
words_by (item.Use u) = u.name ∷ []
words_by _ = []

-- the names that a module declares, in the order of the text
abbrev pub declared_words : Module → List Word
declared_words m = map port_word (ports_in m) ++ flat_map words_by m.items

-- the name begins as that of a clock
abbrev pub is_clock : List ℕ → Bool
is_clock name = begins_with (codes "clk_") name

-- what stands behind `clk_` or `rst_`
abbrev pub signal_domain : List ℕ → List ℕ
signal_domain name = drop 4 name

-- the domains of the clocks among signals
abbrev pub domains_of : List Word → List (List ℕ)
domains_of [] = []
domains_of (s ∷ signals) =
    (if is_clock (bytes_of s) then signal_domain (bytes_of s) ∷ [] else []) ++ domains_of signals

-- the domains of the resets among signals, so many clocks standing before: each reset is that of
-- the clock before it
abbrev pub resets_of : ℕ → List Word → List DomId
resets_of clocks [] = []
resets_of clocks (s ∷ signals) =
    if is_clock (bytes_of s)
    then resets_of (clocks + 1) signals
    else record { number = clocks - 1 } ∷ resets_of clocks signals

-- the domain of a port of the last module, whose name is `i_D_name` or `o_D_name`
abbrev pub domain_part : List ℕ → List ℕ
domain_part name = before_line (drop 2 name)

-- its own name
abbrev pub name_part : List ℕ → List ℕ
name_part name = behind_line (drop 2 name)

-- the port of a net that a line of the last module is
abbrev pub port_of : List (List ℕ) → Line → NetPort
port_of domains l = record {
  name = name_part (line_name l);
  dom = record { number = unwrap_or (place_of domains (domain_part (line_name l))) 0 };
  width = width l.range;
}

-- the ports of a net of which this is the last module
abbrev pub ports_by : Module → Ports
ports_by m =
    let domains : List (List ℕ) = domains_of (signals_of (ports_in m)) in
    record {
      domains = domains;
      resets = resets_of 0 (signals_of (ports_in m));
      inputs = map (port_of domains) (inputs_of (ports_in m));
      outputs = map (port_of domains) (outputs_of (ports_in m));
    }

-- the ports of a text, which are those of its last module
abbrev pub ports_of : Tree → Ports
ports_of tree = ports_by tree.last
