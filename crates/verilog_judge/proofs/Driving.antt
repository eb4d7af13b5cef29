-- The drivers of a module drive its own wires and outputs, where the rules on names hold.
use Rattle.std.proofs.Common.{◌≡◌, ℕ, ◌+◌, ◌-◌, ◌<◌, true, false, ◌&&◌, ◌||◌, List, [], ◌∷◌, ◌++◌, length, length-append, length-drop, map, Option, Some, None, IfSome, is_some, drop, slice_get, refl, sym, ap, subst, ◌∙◌, arith, append_assoc}
use Rattle.std.proofs.Math.Bool.{or-false}
use Rattle.std.proofs.lemmas.Bool.{false≢true}
use Rattle.std.proofs.lemmas.List.{append-nil, length-map}
use Rattle.std.proofs.lemmas.Option.{slice_get_within}
use Rattle.std.specs.List.{AllByRecursion, flat_map}
use Rattle.chw_clock.specs.declared.event.Ports.{Ports}
use Rattle.name_tables.specs.Names.{place_of}
use Rattle.verilog_judge.specs.Driving.{AreOutputs, AreWires, DriveTheirOwn, DrivesItsOwn}
use Rattle.verilog_judge.specs.Marks.{as_operand}
use Rattle.verilog_rules.specs.Checks.{Check, Hold}
use Rattle.verilog_rules.specs.Declarations.{declared_words, input_wire, input_wires, inputs_of, line_name, outputs_of, ports_in, ports_of, signals_of, wires_by, wires_of}
use Rattle.verilog_rules.specs.DriverRules.{OutputAt, drives, own_names, shows, wire_number}
use Rattle.verilog_rules.specs.NameRules.{Place, access_checks, connection_checks, earlier_checks, is_copy, item_checks, items_checks, kind_of, last_checks, may_be_driven, memory_checks, module_checks, module_named}
use Rattle.verilog_rules.specs.NameRules.{name_checks, once_checks, order_checks, port_form, ram_checks, signal_checks, used_checks}
use Rattle.verilog_rules.specs.Resolving.{assigned, assigned_at, driver_of, drivers_of, drives_of, operand, ports_named, resolved, resolved_module, resolved_modules}
use Rattle.verilog_rules.specs.declared.resolved.Driver.{Driver}
use Rattle.verilog_rules.specs.declared.resolved.Kind.TheVariants as kind
use Rattle.verilog_rules.specs.declared.resolved.Operand.{Operand}
use Rattle.verilog_rules.specs.declared.resolved.ResolvedModule.{ResolvedModule}
use Rattle.verilog_rules.specs.declared.resolved.Wire.{Wire}
use Rattle.verilog_rules.proofs.Holding.{AllTrue, all_true, first_part, second_part}
use Rattle.verilog_rules.proofs.Items.{line_placed, place_in}
use Rattle.verilog_rules.proofs.Operands.{Known, known_as}
use Rattle.verilog_rules.proofs.Parts.{all_both, extends_by}
use Rattle.verilog_rules.proofs.Rams.{from_clock, from_value}
use Rattle.verilog_rules.proofs.Wires.{Extends, driven_kind, plain_register, showing}
use Rattle.verilog_tree.specs.Sources.{bytes_of}
use Rattle.verilog_tree.specs.declared.item.Connection.{Connection}
use Rattle.verilog_tree.specs.declared.item.Item.{Item}
use Rattle.verilog_tree.specs.declared.item.Item.TheVariants as item
use Rattle.verilog_tree.specs.declared.item.Ram.{Ram}
use Rattle.verilog_tree.specs.declared.item.Use.{Use}
use Rattle.verilog_tree.specs.declared.module.Module.{Module}
use Rattle.verilog_tree.specs.declared.module.Port.{Port}
use Rattle.verilog_tree.specs.declared.module.Port.TheVariants.{Input, Output, Signal}
use Rattle.verilog_tree.specs.declared.module.Tree.{Tree}
use Rattle.verilog_tree.specs.declared.right.Right.{Right}
use Rattle.verilog_tree.specs.declared.right.Right.TheVariants as right
use Rattle.verilog_tree.specs.declared.word.Line.{Line}
use Rattle.verilog_tree.specs.declared.word.Word.{Word}

-- NAMES

-- a name that is known is that of one of the wires
known_within : (ws full : List Wire) (a : Word) → Extends ws full → Known ws a → (operand ws a).wire.number < length full
known_within ws full a extends k =
    slice_get_within full (operand ws a).wire.number k.wire (extends (operand ws a).wire.number k.wire k.found)

driven_within : (ws full : List Wire) (a : Word) → Extends ws full → may_be_driven (kind_of ws (bytes_of a)) ≡ true → (operand ws a).wire.number < length full
driven_within ws full a extends may =
    let k = driven_kind (kind_of ws (bytes_of a)) may in
    known_within ws full a extends (known_as ws a k.0 k.1)

-- the place of a name among those of outputs
output_within : (outs : List Line) (name : List ℕ) → IfSome (place_of (map line_name outs) name) (λ k. k < length outs)
output_within outs name = by_case (place_of (map line_name outs) name) (λ k is. line_placed outs name k is)
  where
    by_case : (o : Option ℕ) → ((k : ℕ) → o ≡ Some k → (l : Line) × (slice_get outs k ≡ Some l)) → IfSome o (λ k. k < length outs)
    by_case None at = tt
    by_case (Some k) at = let found = at k refl in slice_get_within outs k found.0 found.1

-- DRIVERS

-- a driver drives one of so many wires or outputs
abbrev Drives : (wires outputs : ℕ) → Driver → Type 0
Drives wires outputs d = AreWires wires (drives d) × AreOutputs outputs (shows d)

wire_assigned : (ws full : List Wire) (outputs : ℕ) (name : Word) (r : Right) → Extends ws full → (may_be_driven (kind_of ws (bytes_of name)) || false) ≡ true
    → Drives (length full) outputs (assigned ws name r)
wire_assigned ws full outputs name r extends may =
    ((driven_within ws full name extends (sym (or-false (may_be_driven (kind_of ws (bytes_of name)))) ∙ may), tt), tt)

-- an assignment, to an output of this place or to a wire
assigned_within : (o : Option ℕ) (ws full : List Wire) (outputs : ℕ) (name : Word) (r : Right) → Extends ws full → IfSome o (λ k. k < outputs)
    → (may_be_driven (kind_of ws (bytes_of name)) || (is_some o && is_copy r)) ≡ true → Drives (length full) outputs (assigned_at o ws name r)
assigned_within None ws full outputs name r extends below may = wire_assigned ws full outputs name r extends may
assigned_within (Some k) ws full outputs name (right.Copy a) extends below may = (tt, (below, tt))
assigned_within (Some k) ws full outputs name (right.Constant literal) extends below may = wire_assigned ws full outputs name (right.Constant literal) extends may
assigned_within (Some k) ws full outputs name (right.Join parts) extends below may = wire_assigned ws full outputs name (right.Join parts) extends may
assigned_within (Some k) ws full outputs name (right.Cut a range) extends below may = wire_assigned ws full outputs name (right.Cut a range) extends may
assigned_within (Some k) ws full outputs name (right.Unary op at a) extends below may = wire_assigned ws full outputs name (right.Unary op at a) extends may
assigned_within (Some k) ws full outputs name (right.Binary op at a b) extends below may = wire_assigned ws full outputs name (right.Binary op at a b) extends may
assigned_within (Some k) ws full outputs name (right.Choice d a b) extends below may = wire_assigned ws full outputs name (right.Choice d a b) extends may

-- the wires that are joined to outputs
joined_within : (ws full : List Wire) (close : ℕ) (ports : List Port) (cs : List Connection) → Extends ws full → AllTrue (connection_checks ws close ports cs)
    → AreWires (length full) (drives_of ws ports cs)
joined_within ws full close [] cs extends all = tt
joined_within ws full close (p ∷ ports) [] extends all = absurd (false≢true all.0)
joined_within ws full close (Signal s ∷ ports) (d ∷ cs) extends all = joined_within ws full close ports cs extends all.1.1
joined_within ws full close (Input l ∷ ports) (d ∷ cs) extends all = joined_within ws full close ports cs extends all.1.1
joined_within ws full close (Output l ∷ ports) (d ∷ cs) extends all =
    (driven_within ws full d.wire extends all.1.0, joined_within ws full close ports cs extends all.1.1)

use_within : (ws full : List Wire) (u : Use) (o : Option Module) → Extends ws full → AllTrue (used_checks ws u o)
    → AreWires (length full) (drives_of ws (ports_named o) (u.first ∷ u.others))
use_within ws full u None extends all = tt
use_within ws full u (Some used) extends all = joined_within ws full u.close (ports_in used) (u.first ∷ u.others) extends all

ram_within : (place : Place) (ws full : List Wire) (ram : Ram) → Extends ws full → AllTrue (ram_checks place.ports ws ram)
    → (operand ws ram.register).wire.number < length full
ram_within place ws full ram extends all =
    let name : List ℕ = bytes_of ram.first.memory in
    let after : AllTrue (from_clock place.ports ws ram) = second_part (memory_checks ram.first.memory ram.others) (from_clock place.ports ws ram) all.1 in
    let after_write : AllTrue (from_value ws ram) = second_part (access_checks ws ram.first.memory ram.write) (from_value ws ram) after.1.1 in
    let shown = showing name (kind_of ws (bytes_of ram.register)) after_write.1.0 in
    known_within ws full ram.register extends (known_as ws ram.register (kind.Register shown.0 (Some shown.1)) shown.2)

driver_within : (place : Place) (outs : List Line) (ws full : List Wire) (it : Item) → Extends ws full → AllTrue (item_checks place (map line_name outs) ws it)
    → AllByRecursion (Drives (length full) (length outs)) (driver_of place (map line_name outs) ws it)
driver_within place outs ws full (item.Wire l) extends all = tt
driver_within place outs ws full (item.Register l literal memory) extends all = tt
driver_within place outs ws full (item.Assign name r) extends all =
    (assigned_within (place_of (map line_name outs) (bytes_of name)) ws full (length outs) name r extends (output_within outs (bytes_of name)) all.0, tt)
driver_within place outs ws full (item.Edge edge) extends all =
    let k = plain_register (kind_of ws (bytes_of edge.register)) all.1.0 in
    (((known_within ws full edge.register extends (known_as ws edge.register (kind.Register k.0 None) k.1), tt), tt), tt)
driver_within place outs ws full (item.Ram ram) extends all = (((ram_within place ws full ram extends all, tt), tt), tt)
driver_within place outs ws full (item.Use u) extends all =
    ((use_within ws full u (module_named place.earlier (bytes_of u.used)) extends all, tt), tt)

drivers_within : (place : Place) (outs : List Line) (ws full : List Wire) (items : List Item) → full ≡ ws ++ flat_map wires_by items
    → AllTrue (items_checks place (map line_name outs) ws items)
    → AllByRecursion (Drives (length full) (length outs)) (drivers_of place (map line_name outs) ws items)
drivers_within place outs ws full [] is all = tt
drivers_within place outs ws full (it ∷ items) is all =
    let names : List (List ℕ) = map line_name outs in
    let here : List Driver = driver_of place names ws it in
    let later : List Driver = drivers_of place names (ws ++ wires_by it) items in
    let more : full ≡ (ws ++ wires_by it) ++ flat_map wires_by items = is ∙ sym (append_assoc ws (wires_by it) (flat_map wires_by items)) in
    all_both (Drives (length full) (length outs)) here later
    (driver_within place outs ws full it (extends_by ws (wires_by it ++ flat_map wires_by items) full is)
    (first_part (item_checks place names ws it) (items_checks place names (ws ++ wires_by it) items) all))
    (drivers_within place outs (ws ++ wires_by it) full items more
    (second_part (item_checks place names ws it) (items_checks place names (ws ++ wires_by it) items) all))

-- MODULES

all_wires : (wires outputs : ℕ) (ds : List Driver) → AllByRecursion (Drives wires outputs) ds → AreWires wires (flat_map drives ds)
all_wires wires outputs [] all = tt
all_wires wires outputs (d ∷ ds) all =
    all_both (λ (a : Operand). wire_number a < wires) (drives d) (flat_map drives ds) all.0.0 (all_wires wires outputs ds all.1)

all_outputs : (wires outputs : ℕ) (ds : List Driver) → AllByRecursion (Drives wires outputs) ds → AreOutputs outputs (flat_map shows ds)
all_outputs wires outputs [] all = tt
all_outputs wires outputs (d ∷ ds) all =
    all_both (λ (o : OutputAt). o.number < outputs) (shows d) (flat_map shows ds) all.0.1 (all_outputs wires outputs ds all.1)

module_own : (place : Place) (m : Module) → AllTrue (module_checks place m) → DrivesItsOwn (resolved_module place m)
module_own place m all =
    let outs : List Line = outputs_of (ports_in m) in
    let order_list : List Check = order_checks 0 (ports_in m) in
    let signal_list : List Check = signal_checks None (signals_of (ports_in m)) in
    let once_list : List Check = once_checks [] (declared_words m) in
    let item_list : List Check = items_checks place (map line_name outs) (input_wires m) m.items in
    let after_order : AllTrue (signal_list ++ (once_list ++ item_list)) = second_part order_list (signal_list ++ (once_list ++ item_list)) all.1 in
    let after_signals : AllTrue (once_list ++ item_list) = second_part signal_list (once_list ++ item_list) after_order in
    let items : AllTrue item_list = second_part once_list item_list after_signals in
    let ds : List Driver = drivers_of place (map line_name outs) (input_wires m) m.items in
    let within : AllByRecursion (Drives (length (wires_of m)) (length outs)) ds =
    drivers_within place outs (input_wires m) (wires_of m) m.items refl items in
    let first : length (input_wires m) ≡ length (inputs_of (ports_in m)) = length-map (inputs_of (ports_in m)) input_wire in
    let long : length (wires_of m) ≡ length (input_wires m) + length (flat_map wires_by m.items) = length-append (input_wires m) (flat_map wires_by m.items) in
    record {
      inputs = omega (arith, first, long);
      wires = all_wires (length (wires_of m)) (length outs) ds within;
      outputs = all_outputs (length (wires_of m)) (length outs) ds within;
    }

modules_own : (ports : Ports) (last : Module) (earl ms : List Module) → AllTrue (earlier_checks ports last earl ms) → AllTrue (last_checks ports (earl ++ ms) last)
    → DriveTheirOwn (resolved_modules ports earl (ms ++ last ∷ []))
modules_own ports last earl [] names lasts =
    let lasts_so : AllTrue (last_checks ports earl last) = subst (λ (e : List Module). AllTrue (last_checks ports e last)) (append-nil earl) lasts in
    (module_own (place_in ports earl) last (second_part (flat_map (port_form ports.domains) (ports_in last)) (module_checks (place_in ports earl) last) lasts_so.1), tt)
modules_own ports last earl (m ∷ ms) names lasts = (
  module_own (place_in ports earl) m (first_part (module_checks (place_in ports earl) m) (earlier_checks ports last (earl ++ m ∷ []) ms) names.1),
  modules_own ports last (earl ++ m ∷ []) ms (second_part (module_checks (place_in ports earl) m) (earlier_checks ports last (earl ++ m ∷ []) ms) names.1)
      (subst (λ (e : List Module). AllTrue (last_checks ports e last)) (sym (append_assoc earl (m ∷ []) ms)) lasts),
)

-- a text that keeps the rules on names
pub drive_their_own : (tree : Tree) → Hold (name_checks tree) → DriveTheirOwn (resolved tree).modules
drive_their_own tree held =
    let ports : Ports = ports_of tree in
    let all : AllTrue (name_checks tree) = all_true (name_checks tree) held in
    modules_own ports tree.last [] tree.earlier (first_part (earlier_checks ports tree.last [] tree.earlier) (last_checks ports tree.earlier tree.last) all)
    (second_part (earlier_checks ports tree.last [] tree.earlier) (last_checks ports tree.earlier tree.last) all)

-- WHAT IS MARKED

shown_wires : (count : ℕ) (os : List OutputAt) → AreOutputs count os → AreWires count (map as_operand os)
shown_wires count [] all = tt
shown_wires count (o ∷ os) all = (all.0, shown_wires count os all.1)

-- the outputs of a module, of which none is an input
pub outputs_marked : (m : ResolvedModule) (count : ℕ) (names : List Word) (shown : List Operand) → DrivesItsOwn m → count ≡ length m.outputs
    → names ≡ map (λ (l : Line). l.name) m.outputs → shown ≡ map as_operand (flat_map shows m.drivers) → (count ≡ 0 + length names) × AreWires count shown
outputs_marked m count names shown own size names_are shown_are =
    let long : length names ≡ length m.outputs = ap length names_are ∙ length-map m.outputs (λ (l : Line). l.name) in
    let all : AreWires (length m.outputs) shown = subst (AreWires (length m.outputs)) (sym shown_are) (shown_wires (length m.outputs) (flat_map shows m.drivers) own.outputs) in
    (omega (arith, size, long), subst (λ (n : ℕ). AreWires n shown) (sym size) all)

-- its wires
pub wires_marked : (m : ResolvedModule) (count : ℕ) (names : List Word) (driven : List Operand) → DrivesItsOwn m → count ≡ length m.wires
    → names ≡ own_names m → driven ≡ flat_map drives m.drivers → (count ≡ m.inputs + length names) × AreWires count driven
wires_marked m count names driven own size names_are driven_are =
    let long : length names ≡ length (drop m.inputs m.wires) = ap length names_are ∙ length-map (drop m.inputs m.wires) (λ (w : Wire). w.line.name) in
    let left : length (drop m.inputs m.wires) ≡ length m.wires - m.inputs = length-drop m.inputs m.wires in
    let all : AreWires (length m.wires) driven = subst (AreWires (length m.wires)) (sym driven_are) own.wires in
    (omega (arith, size, long, left, own.inputs), subst (λ (n : ℕ). AreWires n driven) (sym size) all)
