-- What the limits and the forms of tokens say of a text with its names resolved.
use Rattle.std.proofs.Common.{ℕ, ◌+◌, ◌<◌, ◌≤◌, List, [], ◌∷◌, ◌++◌, map, Option, Some, None, option_map, arith}
use Rattle.std.specs.List.{AllByRecursion, flat_map}
use Rattle.std.proofs.lemmas.Bool.{leb-true, ltb-true}
use Rattle.chw_base.specs.declared.limits.TheConstants.{WIRE_BITS}
use Rattle.chw_clock.specs.declared.event.Ports.{Ports}
use Rattle.name_tables.specs.Names.{place_of}
use Rattle.verilog_checks.specs.Narrow.{AreNarrow}
use Rattle.verilog_judge.specs.Read.{AreNarrowWires, AreRead, AreReadKinds, IsFormedIf, IsReadDriver, IsReadKind, IsReadModule}
use Rattle.verilog_rules.specs.Declarations.{input_wire, input_wires, inputs_of, line_name, outputs_of, ports_in, wires_by, wires_of}
use Rattle.verilog_rules.specs.Limits.{item_limits, limits_from, module_limits, port_limits}
use Rattle.verilog_rules.specs.NameRules.{Place}
use Rattle.verilog_rules.specs.Resolving.{assigned_at, driver_of, drivers_of, resolved_module, resolved_modules}
use Rattle.verilog_rules.specs.Texts.{number, width}
use Rattle.verilog_rules.specs.declared.resolved.Wire.{Wire}
use Rattle.verilog_rules.proofs.Formed.{ModuleFormed}
use Rattle.verilog_rules.proofs.Holding.{AllTrue, first_part, second_part}
use Rattle.verilog_rules.proofs.Items.{ItemFormed}
use Rattle.verilog_rules.proofs.Parts.{all_both}
use Rattle.verilog_rules.proofs.Registers.{ResetFormed}
use Rattle.verilog_rules.proofs.Values.{LiteralsIn}
use Rattle.verilog_tree.specs.Sources.{bytes_of}
use Rattle.verilog_tree.specs.declared.item.Item.{Item}
use Rattle.verilog_tree.specs.declared.item.Item.TheVariants as item
use Rattle.verilog_tree.specs.declared.item.Reset.{Reset}
use Rattle.verilog_tree.specs.declared.module.Module.{Module}
use Rattle.verilog_tree.specs.declared.module.Port.{Port}
use Rattle.verilog_tree.specs.declared.module.Port.TheVariants.{Input, Output, Signal}
use Rattle.verilog_tree.specs.declared.right.Right.{Right}
use Rattle.verilog_tree.specs.declared.right.Right.TheVariants as right
use Rattle.verilog_tree.specs.declared.word.Word.{Word}

-- the numbers of a cut are in order
abbrev pub RightOrdered : Right → Type 0
RightOrdered (right.Cut a range) = range.from.at ≤ range.to.at
RightOrdered _ = Unit {0}

abbrev pub ItemOrdered : Item → Type 0
ItemOrdered (item.Assign name r) = RightOrdered r
ItemOrdered _ = Unit {0}

abbrev pub ModuleOrdered : Module → Type 0
ModuleOrdered m = AllByRecursion ItemOrdered m.items

-- PORTS

pub narrow_inputs : (ports : List Port) → AllTrue (flat_map port_limits ports) → AreNarrow (inputs_of ports)
narrow_inputs [] all = tt
narrow_inputs (Signal s ∷ ports) all = narrow_inputs ports all
narrow_inputs (Input l ∷ ports) all = (leb-true (width l.range) WIRE_BITS all.0, narrow_inputs ports all.1)
narrow_inputs (Output l ∷ ports) all = narrow_inputs ports all.1

pub narrow_outputs : (ports : List Port) → AllTrue (flat_map port_limits ports) → AreNarrow (outputs_of ports)
narrow_outputs [] all = tt
narrow_outputs (Signal s ∷ ports) all = narrow_outputs ports all
narrow_outputs (Input l ∷ ports) all = narrow_outputs ports all.1
narrow_outputs (Output l ∷ ports) all = (leb-true (width l.range) WIRE_BITS all.0, narrow_outputs ports all.1)

-- WIRES

-- a wire is narrow, and its literal has its form
abbrev WireRead : Wire → Type 0
WireRead w = (width w.line.range ≤ WIRE_BITS) × IsReadKind w.kind

inputs_read : (ports : List Port) → AllTrue (flat_map port_limits ports) → AllByRecursion WireRead (map input_wire (inputs_of ports))
inputs_read [] all = tt
inputs_read (Signal s ∷ ports) all = inputs_read ports all
inputs_read (Input l ∷ ports) all = ((leb-true (width l.range) WIRE_BITS all.0, tt), inputs_read ports all.1)
inputs_read (Output l ∷ ports) all = inputs_read ports all.1

few : (n : ℕ) → n < 1024 → n + 1 ≤ 1024
few n below = omega arith

wires_read_by : (it : Item) → ItemFormed it → AllTrue (item_limits it) → AllByRecursion WireRead (wires_by it)
wires_read_by (item.Wire l) formed all = ((leb-true (width l.range) WIRE_BITS all.0, tt), tt)
wires_read_by (item.Register l literal None) formed all = ((leb-true (width l.range) WIRE_BITS all.0, (formed, tt)), tt)
wires_read_by (item.Register l literal (Some memory)) formed all =
    ((leb-true (width l.range) WIRE_BITS all.0, (formed, few (number memory.places.to) (ltb-true (number memory.places.to) 1024 all.1.1.1.0))), tt)
wires_read_by (item.Assign name r) formed all = tt
wires_read_by (item.Edge edge) formed all = tt
wires_read_by (item.Ram ram) formed all = tt
wires_read_by (item.Use u) formed all = tt

items_wires_read : (items : List Item) → AllByRecursion ItemFormed items → AllTrue (flat_map item_limits items) → AllByRecursion WireRead (flat_map wires_by items)
items_wires_read [] formed all = tt
items_wires_read (it ∷ items) formed all =
    all_both WireRead (wires_by it) (flat_map wires_by items) (wires_read_by it formed.0 (first_part (item_limits it) (flat_map item_limits items) all))
    (items_wires_read items formed.1 (second_part (item_limits it) (flat_map item_limits items) all))

narrow_ones : (ws : List Wire) → AllByRecursion WireRead ws → AreNarrowWires ws
narrow_ones [] all = tt
narrow_ones (w ∷ ws) all = (all.0.0, narrow_ones ws all.1)

read_kinds : (ws : List Wire) → AllByRecursion WireRead ws → AreReadKinds ws
read_kinds [] all = tt
read_kinds (w ∷ ws) all = (all.0.1, read_kinds ws all.1)

-- DRIVERS

assigned_read : (o : Option ℕ) (ws : List Wire) (name : Word) (r : Right) → LiteralsIn r → RightOrdered r → IsReadDriver (assigned_at o ws name r)
assigned_read None ws name (right.Constant literal) formed ordered = formed
assigned_read None ws name (right.Copy a) formed ordered = tt
assigned_read None ws name (right.Join parts) formed ordered = tt
assigned_read None ws name (right.Cut a range) formed ordered = ordered
assigned_read None ws name (right.Unary op at a) formed ordered = tt
assigned_read None ws name (right.Binary op at a b) formed ordered = tt
assigned_read None ws name (right.Choice c a b) formed ordered = tt
assigned_read (Some k) ws name (right.Constant literal) formed ordered = formed
assigned_read (Some k) ws name (right.Copy a) formed ordered = tt
assigned_read (Some k) ws name (right.Join parts) formed ordered = tt
assigned_read (Some k) ws name (right.Cut a range) formed ordered = ordered
assigned_read (Some k) ws name (right.Unary op at a) formed ordered = tt
assigned_read (Some k) ws name (right.Binary op at a b) formed ordered = tt
assigned_read (Some k) ws name (right.Choice c a b) formed ordered = tt

driver_read : (place : Place) (names : List (List ℕ)) (ws : List Wire) (it : Item) → ItemFormed it → ItemOrdered it → AllByRecursion IsReadDriver (driver_of place names ws it)
driver_read place names ws (item.Wire l) formed ordered = tt
driver_read place names ws (item.Register l literal memory) formed ordered = tt
driver_read place names ws (item.Assign name r) formed ordered = (assigned_read (place_of names (bytes_of name)) ws name r formed ordered, tt)
driver_read place names ws (item.Edge edge) formed ordered = (by_reset edge.reset formed, tt)
  where
    by_reset : (o : Option Reset) → ResetFormed o → IsFormedIf (option_map (λ (reset : Reset). reset.literal) o)
    by_reset None read = tt
    by_reset (Some r) read = read
driver_read place names ws (item.Ram ram) formed ordered = (formed.words, tt)
driver_read place names ws (item.Use u) formed ordered = (tt, tt)

drivers_read : (place : Place) (names : List (List ℕ)) (ws : List Wire) (items : List Item) → AllByRecursion ItemFormed items → AllByRecursion ItemOrdered items
    → AllByRecursion IsReadDriver (drivers_of place names ws items)
drivers_read place names ws [] formed ordered = tt
drivers_read place names ws (it ∷ items) formed ordered =
    all_both IsReadDriver (driver_of place names ws it) (drivers_of place names (ws ++ wires_by it) items) (driver_read place names ws it formed.0 ordered.0)
    (drivers_read place names (ws ++ wires_by it) items formed.1 ordered.1)

-- MODULES

module_read : (place : Place) (k : ℕ) (m : Module) → ModuleFormed m → ModuleOrdered m → AllTrue (module_limits k m) → IsReadModule (resolved_module place m)
module_read place k m formed ordered limits =
    let ports : AllTrue (flat_map port_limits (ports_in m)) = first_part (flat_map port_limits (ports_in m)) (flat_map item_limits m.items) limits.1 in
    let items : AllTrue (flat_map item_limits m.items) = second_part (flat_map port_limits (ports_in m)) (flat_map item_limits m.items) limits.1 in
    let wires : AllByRecursion WireRead (wires_of m) =
    all_both WireRead (input_wires m) (flat_map wires_by m.items) (inputs_read (ports_in m) ports) (items_wires_read m.items formed items) in
    record {
      narrow = narrow_ones (wires_of m) wires;
      kinds = read_kinds (wires_of m) wires;
      outputs = narrow_outputs (ports_in m) ports;
      drivers = drivers_read place (map line_name (outputs_of (ports_in m))) (input_wires m) m.items formed ordered;
    }

pub modules_read : (ports : Ports) (earlier : List Module) (k : ℕ) (ms : List Module) → AllByRecursion ModuleFormed ms → AllByRecursion ModuleOrdered ms → AllTrue (limits_from k ms)
    → AreRead (resolved_modules ports earlier ms)
modules_read ports earlier k [] formed ordered limits = tt
modules_read ports earlier k (m ∷ ms) formed ordered limits = (
  module_read (record { ports = ports; earlier = earlier }) k m formed.0 ordered.0 (first_part (module_limits k m) (limits_from (k + 1) ms) limits),
  modules_read ports (earlier ++ m ∷ []) (k + 1) ms formed.1 ordered.1 (second_part (module_limits k m) (limits_from (k + 1) ms) limits),
)

-- the last module's ports are within their limits
pub last_limits : (k : ℕ) (ms : List Module) (last : Module) → AllTrue (limits_from k (ms ++ last ∷ [])) → AllTrue (flat_map port_limits (ports_in last))
last_limits k [] last all =
    first_part (flat_map port_limits (ports_in last)) (flat_map item_limits last.items) (first_part (module_limits k last) [] all).1
last_limits k (m ∷ ms) last all = last_limits (k + 1) ms last (second_part (module_limits k m) (limits_from (k + 1) (ms ++ last ∷ [])) all)
