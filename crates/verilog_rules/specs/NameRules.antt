-- The rules on the names of a text: what is declared where, and as what it is named.
use Rattle.std.specs.Prelude.{ℕ, Bool, true, false, not, ◌&&◌, ◌||◌, nat_le, is_some}
use Rattle.std.specs.Prelude.{List, [], ◌∷◌, ◌++◌, codes, map}
use Rattle.std.specs.Prelude.{Option, Some, None, if◌then◌else◌}
use Rattle.std.specs.List.{flat_map, list_any}
use Rattle.std.specs.Cmp.Lexicographic.{pointwise}
use Rattle.std.specs.Str.{bytes_eq}
use Rattle.chw_base.specs.declared.index.DomId.{DomId}
use Rattle.chw_clock.specs.Histories.{has_reset}
use Rattle.chw_clock.specs.declared.event.Ports.{Ports}
use Rattle.name_tables.specs.Names.{is_among, place_of}
use Rattle.verilog_rules.specs.Checks.{Check, check}
use Rattle.verilog_rules.specs.Declarations.{declared_words, domain_part, input_wires}
use Rattle.verilog_rules.specs.Declarations.{is_clock, line_name, name_part, outputs_of, port_word}
use Rattle.verilog_rules.specs.Declarations.{ports_in, ports_of, signal_domain, signals_of}
use Rattle.verilog_rules.specs.Declarations.{wire_name, wires_by}
use Rattle.verilog_rules.specs.Texts.{begins_with, is_lower_word, is_upper}
use Rattle.verilog_rules.specs.declared.resolved.Kind.{Kind}
use Rattle.verilog_rules.specs.declared.resolved.Kind.TheVariants as kind
use Rattle.verilog_rules.specs.declared.resolved.Wire.{Wire}
use Rattle.verilog_text.specs.Names.{clock_name, domain_name, reset_name, top_name}
use Rattle.verilog_tree.specs.Sources.{bytes_of}
use Rattle.verilog_tree.specs.declared.item.Access.{Access}
use Rattle.verilog_tree.specs.declared.item.Connection.{Connection}
use Rattle.verilog_tree.specs.declared.item.Edge.{Edge}
use Rattle.verilog_tree.specs.declared.item.FirstWord.{FirstWord}
use Rattle.verilog_tree.specs.declared.item.Item.{Item}
use Rattle.verilog_tree.specs.declared.item.Item.TheVariants as item
use Rattle.verilog_tree.specs.declared.item.Ram.{Ram}
use Rattle.verilog_tree.specs.declared.item.Reset.{Reset}
use Rattle.verilog_tree.specs.declared.item.Use.{Use}
use Rattle.verilog_tree.specs.declared.module.Module.{Module}
use Rattle.verilog_tree.specs.declared.module.Port.{Port}
use Rattle.verilog_tree.specs.declared.module.Port.TheVariants.{Input, Output, Signal}
use Rattle.verilog_tree.specs.declared.module.Tree.{Tree}
use Rattle.verilog_tree.specs.declared.right.Right.{Right}
use Rattle.verilog_tree.specs.declared.right.Right.TheVariants.{Binary, Choice, Constant, Copy, Cut}
use Rattle.verilog_tree.specs.declared.right.Right.TheVariants.{Join, Unary}
use Rattle.verilog_tree.specs.declared.word.Word.{Word}

-- what a module of a text is read by: the ports of the text, and the modules before it
pub record Place : Type 0 where
  pub ports : Ports
  pub earlier : List Module

-- PORTS

-- clocks and resets come before inputs, and these before outputs
abbrev pub rank : Port → ℕ
rank (Signal s) = 0
rank (Input l) = 1
rank (Output l) = 2

-- each port is of no lesser rank than the one before it
abbrev pub order_checks : ℕ → List Port → List Check
order_checks before [] = []
order_checks before (p ∷ ports) =
    check (port_word p).at (nat_le before (rank p)) ∷ order_checks (rank p) ports

-- a clock's name has a domain's behind `clk_`; a reset is that of the clock before it
abbrev pub is_signal_behind : Option (List ℕ) → List ℕ → Bool
is_signal_behind None name = is_clock name && is_upper (signal_domain name)
is_signal_behind (Some before) name =
    (is_clock name && is_upper (signal_domain name))
    || (is_clock before && bytes_eq name (reset_name (signal_domain before)))

-- each signal is so, behind the one before it
abbrev pub signal_checks : Option (List ℕ) → List Word → List Check
signal_checks before [] = []
signal_checks before (s ∷ signals) =
    check s.at (is_signal_behind before (bytes_of s)) ∷ signal_checks (Some (bytes_of s)) signals

-- each name is none of those before it
abbrev pub once_checks : List (List ℕ) → List Word → List Check
once_checks before [] = []
once_checks before (w ∷ words) =
    check w.at (not (is_among before (bytes_of w))) ∷ once_checks (before ++ bytes_of w ∷ []) words

-- the name of a port of the last module: `i_D_name` or `o_D_name` with one of these domains
abbrev pub is_port_name : List (List ℕ) → (front : List ℕ) → List ℕ → Bool
is_port_name domains front name =
    begins_with front name
    && (is_among domains (domain_part name) && is_lower_word (name_part name))

abbrev pub port_form : List (List ℕ) → Port → List Check
port_form domains (Signal s) = []
port_form domains (Input l) =
    check l.name.at (is_port_name domains (codes "i_") (line_name l)) ∷ []
port_form domains (Output l) =
    check l.name.at (is_port_name domains (codes "o_") (line_name l)) ∷ []

-- ITEMS

-- the kind of the wire of a name
abbrev pub kind_of : List Wire → List ℕ → Option Kind
kind_of [] name = None
kind_of (w ∷ wires) name = if bytes_eq name (wire_name w) then Some w.kind else kind_of wires name

-- a wire that an assignment or a use may name: an input is the business of the rules on drivers
abbrev pub may_be_driven : Option Kind → Bool
may_be_driven (Some kind.Plain) = true
may_be_driven (Some kind.Input) = true
may_be_driven _ = false

-- a register that shows no memory
abbrev pub is_plain_register : Option Kind → Bool
is_plain_register (Some (kind.Register literal None)) = true
is_plain_register _ = false

-- a register that shows the memory of this name
abbrev pub shows : List ℕ → Option Kind → Bool
shows memory (Some (kind.Register literal (Some m))) = bytes_eq memory (bytes_of m.name)
shows memory _ = false

-- the memory of this name is declared with one of the wires
abbrev pub is_memory : List Wire → List ℕ → Bool
is_memory wires memory = list_any (λ (w : Wire). shows memory (Some w.kind)) wires

-- the name is that of a wire
abbrev pub operand_check : List Wire → Word → Check
operand_check wires a = check a.at (is_some (kind_of wires (bytes_of a)))

-- the words are one name
abbrev pub same_check : (first again : Word) → Check
same_check first again = check again.at (bytes_eq (bytes_of again) (bytes_of first))

-- the names on the right side of an assignment
abbrev pub operands_of : Right → List Word
operands_of (Constant literal) = []
operands_of (Copy a) = a ∷ []
operands_of (Join parts) = parts.first ∷ parts.others
operands_of (Cut a range) = a ∷ []
operands_of (Unary op sign a) = a ∷ []
operands_of (Binary op sign a b) = a ∷ b ∷ []
operands_of (Choice c a b) = c ∷ a ∷ b ∷ []

-- the right side is a name alone
abbrev pub is_copy : Right → Bool
is_copy (Copy a) = true
is_copy _ = false

-- the left side of an assignment: a wire, or an output if the right side is a name alone
abbrev pub is_target : (outputs : List (List ℕ)) → List Wire → List ℕ → Right → Bool
is_target outputs wires name right =
    may_be_driven (kind_of wires name) || (is_among outputs name && is_copy right)

abbrev pub assign_checks : (outputs : List (List ℕ)) → List Wire → Word → Right → List Check
assign_checks outputs wires name right =
    check name.at (is_target outputs wires (bytes_of name) right)
    ∷ map (operand_check wires) (operands_of right)

-- the place of a clock's domain among those of the ports
abbrev pub domain_of : Ports → Word → Option ℕ
domain_of ports clock = place_of (map clock_name ports.domains) (bytes_of clock)

abbrev pub clock_check : Ports → Word → Check
clock_check ports clock = check clock.at (is_some (domain_of ports clock))

-- a reset stands where the domain has one, and is its reset
abbrev pub reset_check : Ports → DomId → Option Reset → (a : Word) → Check
reset_check ports domain None a = check a.at (not (has_reset ports domain))
reset_check ports domain (Some reset) a =
    check reset.name.at
    (has_reset ports domain
    && bytes_eq (bytes_of reset.name) (reset_name (domain_name ports.domains domain)))

-- of a clock that is none there is nothing more to say
abbrev pub reset_checks : Ports → Option ℕ → Option Reset → (a : Word) → List Check
reset_checks ports None reset a = []
reset_checks ports (Some domain) reset a =
    reset_check ports (record { number = domain }) reset a ∷ []

abbrev pub edge_checks : Ports → List Wire → Edge → List Check
edge_checks ports wires edge =
    clock_check ports edge.clock
    ∷ check edge.register.at (is_plain_register (kind_of wires (bytes_of edge.register)))
    ∷ (reset_checks ports (domain_of ports edge.clock) edge.reset edge.a
    ++ operand_check wires edge.a ∷ [])

-- an address is a wire, the memory is the one of the words, and the address is named twice
abbrev pub access_checks : List Wire → (memory : Word) → Access → List Check
access_checks wires memory access =
    operand_check wires access.address ∷ same_check memory access.memory
    ∷ same_check access.address access.again ∷ []

-- each word is one of the first word's memory
abbrev pub memory_checks : (memory : Word) → List FirstWord → List Check
memory_checks memory words = map (λ (word : FirstWord). same_check memory word.memory) words

abbrev pub ram_checks : Ports → List Wire → Ram → List Check
ram_checks ports wires ram =
    let memory : Word = ram.first.memory in
    check memory.at (is_memory wires (bytes_of memory))
    ∷ (memory_checks memory ram.others
    ++ (clock_check ports ram.clock ∷ operand_check wires ram.enable
    ∷ (access_checks wires memory ram.write
    ++ (operand_check wires ram.value
    ∷ check ram.register.at (shows (bytes_of memory) (kind_of wires (bytes_of ram.register)))
    ∷ access_checks wires memory ram.read))))

-- a name may be joined to a port: a clock or a reset is joined to its own name
abbrev pub joins : List Wire → Port → List ℕ → Bool
joins wires (Signal s) name = bytes_eq name (bytes_of s)
joins wires (Input l) name = is_some (kind_of wires name)
joins wires (Output l) name = may_be_driven (kind_of wires name)

-- the connections are those of these ports, in order; the place is that of the closing bracket
abbrev pub connection_checks : List Wire → (close : ℕ) → List Port → List Connection → List Check
connection_checks wires close [] [] = []
connection_checks wires close (p ∷ ports) [] = check close false ∷ []
connection_checks wires close [] (c ∷ connections) = check c.port.at false ∷ []
connection_checks wires close (p ∷ ports) (c ∷ connections) =
    check c.port.at (bytes_eq (bytes_of c.port) (bytes_of (port_word p)))
    ∷ check c.wire.at (joins wires p (bytes_of c.wire))
    ∷ connection_checks wires close ports connections

-- the module of a name
abbrev pub module_named : List Module → List ℕ → Option Module
module_named [] name = None
module_named (m ∷ modules) name =
    if bytes_eq name (bytes_of m.name) then Some m else module_named modules name

-- of a module that is none there is nothing more to say
abbrev pub used_checks : List Wire → Use → Option Module → List Check
used_checks wires u None = check u.used.at false ∷ []
used_checks wires u (Some used) =
    connection_checks wires u.close (ports_in used) (u.first ∷ u.others)

-- the used module is an earlier one
abbrev pub use_checks : List Module → List Wire → Use → List Check
use_checks earlier wires u = used_checks wires u (module_named earlier (bytes_of u.used))

-- an item, behind these wires
abbrev pub item_checks : Place → (outputs : List (List ℕ)) → List Wire → Item → List Check
item_checks place outputs wires (item.Wire l) = []
item_checks place outputs wires (item.Register l literal memory) = []
item_checks place outputs wires (item.Assign name right) = assign_checks outputs wires name right
item_checks place outputs wires (item.Edge edge) = edge_checks place.ports wires edge
item_checks place outputs wires (item.Ram ram) = ram_checks place.ports wires ram
item_checks place outputs wires (item.Use u) = use_checks place.earlier wires u

-- items, each behind the wires that are declared before it
abbrev pub items_checks : Place → (outputs : List (List ℕ)) → List Wire → List Item → List Check
items_checks place outputs wires [] = []
items_checks place outputs wires (item ∷ items) =
    item_checks place outputs wires item
    ++ items_checks place outputs (wires ++ wires_by item) items

-- MODULES

-- the names of modules
abbrev pub module_names : List Module → List (List ℕ)
module_names modules = map (λ (m : Module). bytes_of m.name) modules

-- the names of words
abbrev pub texts : List Word → List (List ℕ)
texts words = map bytes_of words

-- a module's name is none of those before it; its ports, its names and its items
abbrev pub module_checks : Place → Module → List Check
module_checks place m =
    check m.name.at (not (is_among (module_names place.earlier) (bytes_of m.name)))
    ∷ (order_checks 0 (ports_in m)
    ++ (signal_checks None (signals_of (ports_in m))
    ++ (once_checks [] (declared_words m)
    ++ items_checks place (map line_name (outputs_of (ports_in m))) (input_wires m) m.items)))

-- a module before the last has the clocks and resets of the last
abbrev pub same_signals : (last m : Module) → Check
same_signals last m =
    check m.name.at
    (pointwise bytes_eq (texts (signals_of (ports_in m))) (texts (signals_of (ports_in last))))

-- the modules before the last
abbrev pub earlier_checks : Ports → (last : Module) → List Module → List Module → List Check
earlier_checks ports last earlier [] = []
earlier_checks ports last earlier (m ∷ modules) =
    same_signals last m ∷ (module_checks (record { ports = ports; earlier = earlier }) m
    ++ earlier_checks ports last (earlier ++ m ∷ []) modules)

-- the last module is the top, and its ports have domains of its clocks
abbrev pub last_checks : Ports → (earlier : List Module) → Module → List Check
last_checks ports earlier last =
    check last.name.at (bytes_eq (bytes_of last.name) top_name)
    ∷ (flat_map (port_form ports.domains) (ports_in last)
    ++ module_checks (record { ports = ports; earlier = earlier }) last)

-- the rules on names
abbrev pub name_checks : Tree → List Check
name_checks tree =
    earlier_checks (ports_of tree) tree.last [] tree.earlier
    ++ last_checks (ports_of tree) tree.earlier tree.last
