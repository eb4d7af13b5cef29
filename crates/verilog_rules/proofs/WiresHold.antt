-- What the checks say of the wires of a module.
use Rattle.std.proofs.Common.{◌≡◌, ℕ, zero, suc, ◌≤◌, List, [], ◌∷◌, ◌++◌, length, map, Option, Some, None, refl, sym, ap, ◌∙◌, arith}
use Rattle.std.specs.Prelude.{option_map, slice_get}
use Rattle.std.specs.List.{AllByRecursion, flat_map}
use Rattle.std.proofs.lemmas.Bool.{leb-true, ltb-true}
use Rattle.std.proofs.lemmas.Option.{same_Some}
use Rattle.chw_base.specs.declared.limits.TheConstants.{WIRE_BITS}
use Rattle.verilog_tree.specs.declared.item.Item.{Item}
use Rattle.verilog_tree.specs.declared.item.Item.TheVariants as item
use Rattle.verilog_tree.specs.declared.module.Module.{Module}
use Rattle.verilog_tree.specs.declared.module.Port.{Port}
use Rattle.verilog_tree.specs.declared.module.Port.TheVariants.{Input, Output, Signal}
use Rattle.verilog_tree.specs.declared.word.Line.{Line}
use Rattle.verilog_rules.specs.Declarations.{input_wire, input_wires, inputs_of, ports_in, wires_by, wires_of}
use Rattle.verilog_rules.specs.Limits.{item_limits, port_limits}
use Rattle.verilog_rules.specs.Texts.{number, width}
use Rattle.verilog_rules.specs.WidthRules.{kind_at, wire_checks}
use Rattle.verilog_rules.specs.declared.resolved.Kind.TheVariants as kind
use Rattle.verilog_rules.specs.declared.resolved.Operand.{Operand}
use Rattle.verilog_rules.specs.declared.resolved.Wire.{Wire}
use Rattle.verilog_rules.proofs.Connections.{NoInput}
use Rattle.verilog_rules.proofs.Holding.{AllTrue, each_part, first_part, second_part}
use Rattle.verilog_rules.proofs.Items.{ItemFormed}
use Rattle.verilog_rules.proofs.Parts.{all_both}
use Rattle.verilog_rules.proofs.Wires.{HasFewPlaces, KindFormed, WireHolds}

-- what the limits say of a wire, and its form
record WireLimits (w : Wire) : Type 0 where
  pub formed : KindFormed w.kind
  pub narrow : width w.line.range ≤ WIRE_BITS
  pub few : HasFewPlaces w.kind

inputs_limits : (ports : List Port) → AllTrue (flat_map port_limits ports) → AllByRecursion WireLimits (map input_wire (inputs_of ports))
inputs_limits [] all = tt
inputs_limits (Signal s ∷ ports) all = inputs_limits ports all
inputs_limits (Input l ∷ ports) all =
    (record { formed = tt; narrow = leb-true (width l.range) WIRE_BITS all.0; few = tt }, inputs_limits ports all.1)
inputs_limits (Output l ∷ ports) all = inputs_limits ports all.1

item_wires : (it : Item) → ItemFormed it → AllTrue (item_limits it) → AllByRecursion WireLimits (wires_by it)
item_wires (item.Wire l) formed all = (record { formed = tt; narrow = leb-true (width l.range) WIRE_BITS all.0; few = tt }, tt)
item_wires (item.Register l literal None) formed all = (record { formed = formed; narrow = leb-true (width l.range) WIRE_BITS all.0; few = tt }, tt)
item_wires (item.Register l literal (Some memory)) formed all =
    (record { formed = formed; narrow = leb-true (width l.range) WIRE_BITS all.0; few = ltb-true (number memory.places.to) 1024 all.1.1.1.0 }, tt)
item_wires (item.Assign name r) formed all = tt
item_wires (item.Edge edge) formed all = tt
item_wires (item.Ram ram) formed all = tt
item_wires (item.Use u) formed all = tt

items_wires : (items : List Item) → AllByRecursion ItemFormed items → AllTrue (flat_map item_limits items) → AllByRecursion WireLimits (flat_map wires_by items)
items_wires [] formed all = tt
items_wires (it ∷ items) formed all =
    all_both WireLimits (wires_by it) (flat_map wires_by items) (item_wires it formed.0 (first_part (item_limits it) (flat_map item_limits items) all))
    (items_wires items formed.1 (second_part (item_limits it) (flat_map item_limits items) all))

together : (ws : List Wire) → AllByRecursion WireLimits ws → AllByRecursion (λ (w : Wire). AllTrue (wire_checks w)) ws → AllByRecursion WireHolds ws
together [] limits checks = tt
together (w ∷ ws) limits checks =
    (record { formed = limits.0.formed; checks = checks.0; narrow = limits.0.narrow; few = limits.0.few }, together ws limits.1 checks.1)

pub wires_hold : (m : Module) → AllByRecursion ItemFormed m.items → AllTrue (flat_map port_limits (ports_in m)) → AllTrue (flat_map item_limits m.items)
    → AllTrue (flat_map wire_checks (wires_of m)) → AllByRecursion WireHolds (wires_of m)
wires_hold m formed ports items checks =
    together (wires_of m) (all_both WireLimits (input_wires m) (flat_map wires_by m.items) (inputs_limits (ports_in m) ports) (items_wires m.items formed items))
    (each_part wire_checks (wires_of m) checks)

-- NO INPUT

abbrev NotInput : Wire → Type 0
NotInput w = w.kind ≡ kind.Input → ⊥

items_not_inputs : (items : List Item) → AllByRecursion NotInput (flat_map wires_by items)
items_not_inputs [] = tt
items_not_inputs (it ∷ items) = all_both NotInput (wires_by it) (flat_map wires_by items) (not_inputs it) (items_not_inputs items)
  where
    not_inputs : (it : Item) → AllByRecursion NotInput (wires_by it)
    not_inputs (item.Wire l) = ((λ is. absurd (cc)), tt)
    not_inputs (item.Register l literal memory) = ((λ is. absurd (cc)), tt)
    not_inputs (item.Assign name r) = tt
    not_inputs (item.Edge edge) = tt
    not_inputs (item.Ram ram) = tt
    not_inputs (item.Use u) = tt

-- a wire behind the inputs is none
pub behind_inputs : (ls : List Line) (ws : List Wire) (n : ℕ) → AllByRecursion NotInput ws → length ls ≤ n → (w : Wire) → slice_get (map input_wire ls ++ ws) n ≡ Some w → w.kind ≡ kind.Input → ⊥
behind_inputs [] [] n not_inputs least w found is = absurd (cc)
behind_inputs [] (v ∷ ws) zero not_inputs least w found is = not_inputs.0 (ap (λ (x : Wire). x.kind) (same_Some v w found) ∙ is)
behind_inputs [] (v ∷ ws) (suc n) not_inputs least w found is = behind_inputs [] ws n not_inputs.1 (omega arith) w found is
behind_inputs (l ∷ ls) ws zero not_inputs least w found is = absurd (omega arith)
behind_inputs (l ∷ ls) ws (suc n) not_inputs least w found is = behind_inputs ls ws n not_inputs (omega arith) w found is

pub no_inputs_driven : (m : Module) (ops : List Operand) → AllByRecursion (λ (a : Operand). length (inputs_of (ports_in m)) ≤ a.wire.number) ops → AllByRecursion (NoInput (wires_of m)) ops
no_inputs_driven m [] all = tt
no_inputs_driven m (a ∷ ops) all = (not_input (slice_get (wires_of m) a.wire.number) refl, no_inputs_driven m ops all.1)
  where
    not_input : (o : Option Wire) → slice_get (wires_of m) a.wire.number ≡ o → kind_at (wires_of m) a ≡ Some kind.Input → ⊥
    not_input None is there = absurd (none_there (ap (option_map (λ (w : Wire). w.kind)) is) there)
      where
        none_there : kind_at (wires_of m) a ≡ None → kind_at (wires_of m) a ≡ Some kind.Input → ⊥
        none_there first second = absurd (cc)
    not_input (Some w) is there =
        behind_inputs (inputs_of (ports_in m)) (flat_map wires_by m.items) a.wire.number (items_not_inputs m.items) all.0 w is
        (same_Some w.kind kind.Input (sym (ap (option_map (λ (w : Wire). w.kind)) is) ∙ there))
