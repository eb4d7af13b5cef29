-- A module that stands in a text that denotes a net is checked, and the net's module is made of it.
use Rattle.std.proofs.Common.{◌≡◌, ℕ, zero, suc, ◌+◌, ◌-◌, ◌<◌, ◌≤◌, Bool, true, false, leb, ltb, List, [], ◌∷◌, ◌++◌, length, map, drop, Some, None, refl, sym, ap, ◌∙◌, subst, arith}
use Rattle.std.specs.Prelude.{slice_get}
use Rattle.std.specs.List.{AllByRecursion, flat_map}
use Rattle.std.proofs.lemmas.Bool.{eq-eqb, false≢true, leb-false, leb-true, ltb-false, ltb-true}
use Rattle.std.proofs.lemmas.List.{length-append, length-drop, length-map}
use Rattle.std.proofs.lemmas.Option.{same_Some, slice_get_within}
use Rattle.chw_base.specs.declared.index.WireId.{WireId}
use Rattle.chw_base.specs.declared.limits.TheConstants.{WIRE_BITS}
use Rattle.chw_clock.specs.declared.event.Ports.{Ports}
use Rattle.name_tables.specs.Names.{is_among}
use Rattle.net_rules.specs.WellFormed.{HasFewWords, WidthsAgree, wire_driven_at}
use Rattle.netlist.specs.Sound.{EachOnce, IsWireWidth}
use Rattle.netlist.specs.Wires.{driven}
use Rattle.netlist.specs.declared.net.Cell.{Cell}
use Rattle.netlist.specs.declared.net.Module.{Module as NetModule}
use Rattle.verilog_text.specs.Declared.{Declared, value, width_of}
use Rattle.verilog_text.specs.Declared.{input_wires as said_input_wires, wires_of as said_wires}
use Rattle.verilog_text.specs.Denotes.{DenotesModule, ItemsAre, Scene, assigned_to, cells_of, scene_of}
use Rattle.verilog_text.specs.Source.{Line as LineItem}
use Rattle.verilog_tree.specs.Sources.{bytes_of, item_of, line_of, module_of}
use Rattle.verilog_tree.specs.declared.module.Module.{Module}
use Rattle.verilog_tree.specs.declared.word.Line.{Line}
use Rattle.verilog_rules.specs.Declarations.{input_wire, input_wires, inputs_of, outputs_of, ports_in, signals_of, wires_by, wires_of}
use Rattle.verilog_rules.specs.DriverRules.{all_shown, drives, is_one_of, own_names, shows, undriven_checks}
use Rattle.verilog_rules.specs.NameRules.{Place, module_names, signal_checks}
use Rattle.verilog_rules.specs.NetOf.{cells_by, net_module, shown_wire, shown_wires, wire}
use Rattle.verilog_rules.specs.Texts.{number, width}
use Rattle.verilog_rules.specs.WidthRules.{driver_width_checks, range_check, wire_checks, wire_widths}
use Rattle.verilog_rules.specs.declared.resolved.Driver.{Driver}
use Rattle.verilog_rules.specs.declared.resolved.Kind.{Kind}
use Rattle.verilog_rules.specs.declared.resolved.Kind.TheVariants as kind
use Rattle.verilog_rules.specs.declared.resolved.Operand.{Operand}
use Rattle.verilog_rules.specs.declared.resolved.ResolvedModule.{ResolvedModule}
use Rattle.verilog_rules.specs.declared.resolved.Wire.{Wire}
use Rattle.verilog_rules.proofs.Apart.{Apart}
use Rattle.verilog_rules.proofs.Connections.{Ordered, in_order_back, inputs_said, outputs_said}
use Rattle.verilog_rules.proofs.Denoting.{ModuleChecked, a_scene, input_wires_said, made, wires_said, widths_said}
use Rattle.verilog_rules.proofs.Distinct.{distinct_names}
use Rattle.verilog_rules.proofs.Driven.{each_checked, shown_hold, shown_once, undriven_hold}
use Rattle.verilog_rules.proofs.Formed.{ModuleFormed}
use Rattle.verilog_rules.proofs.Holding.{AllTrue, all_parts}
use Rattle.verilog_rules.proofs.Items.{place_in, scene_in}
use Rattle.verilog_rules.proofs.ModulesWell.{width_at}
use Rattle.verilog_rules.proofs.Operands.{said}
use Rattle.verilog_rules.proofs.Parts.{all_back, all_front, cells_are, cells_drive, shown_are, shown_by}
use Rattle.verilog_rules.proofs.Used.{EarlierFit}
use Rattle.verilog_rules.proofs.WasChecked.{Below, NarrowLine, WireFacts, all_from, driven_at, front_input, inputs_narrow, items_limited, no_output, none_above, outputs_below, parts_agree, ports_limited, shown_are_apart, shown_list, shown_narrow, some_shown}
use Rattle.verilog_rules.proofs.WasItems.{DrivenFits, NoOutput, PartAgrees, WireFits}
use Rattle.verilog_rules.proofs.WasModules.{ItemsWere, Narrow, items_were}

-- what the rules of nets say of a module, as far as it is needed
pub record NetWell (earlier : List NetModule) (m : NetModule) : Type 0 where
  pub agree : AllByRecursion (WidthsAgree earlier m.widths) m.cells
  pub few : AllByRecursion HasFewWords m.cells
  pub once : EachOnce m.inputs (length m.widths) (wire_driven_at (flat_map driven m.cells))
  pub narrow : AllByRecursion IsWireWidth m.widths

abbrev EndsAtZero : LineItem → Type 0
EndsAtZero l = value l.range.to ≡ 0

outputs_end_back : (ls : List Line) → AllByRecursion EndsAtZero (map line_of ls) → AllTrue (map (λ (l : Line). range_check l.range) ls)
outputs_end_back [] all = tt
outputs_end_back (l ∷ ls) all = (eq-eqb (number l.range.to) 0 all.0, outputs_end_back ls all.1)

wires_end_at : (ws : List Wire) (k : ℕ) (w : Wire) → AllByRecursion EndsAtZero (map (λ (d : Declared). d.line) (map said ws)) → slice_get ws k ≡ Some w → value (bytes_of w.line.range.to) ≡ 0
wires_end_at [] k w all found = absurd (cc)
wires_end_at (v ∷ ws) zero w all found = subst (λ (x : Wire). value (bytes_of x.line.range.to) ≡ 0) (same_Some v w found) all.0
wires_end_at (v ∷ ws) (suc k) w all found = wires_end_at ws k w all.1 found

narrow_of : (widths : List ℕ) → AllByRecursion IsWireWidth widths → Narrow widths
narrow_of [] all = tt
narrow_of (n ∷ widths) all = (all.0.1, narrow_of widths all.1)

narrow_wire : (ws : List Wire) (k : ℕ) (w : Wire) → Narrow (map (λ (w : Wire). width w.line.range) ws) → slice_get ws k ≡ Some w → width w.line.range ≤ WIRE_BITS
narrow_wire [] k w all found = absurd (cc)
narrow_wire (v ∷ ws) zero w all found = subst (λ (x : Wire). width x.line.range ≤ WIRE_BITS) (same_Some v w found) all.0
narrow_wire (v ∷ ws) (suc k) w all found = narrow_wire ws k w all.1 found

-- a wire that isn't an input is driven, and so it fits
wire_facts : (mt : Module) (m : ResolvedModule) (ops : List Operand) → m.wires ≡ wires_of mt → m.inputs ≡ length (inputs_of (ports_in mt)) → AllByRecursion (DrivenFits m) ops
    → EachOnce m.inputs (length m.wires) (wire_driven_at (map wire ops)) → Narrow (wire_widths m)
    → ((k : ℕ) (w : Wire) → slice_get m.wires k ≡ Some w → value (bytes_of w.line.range.to) ≡ 0) → AllByRecursion WireFacts m.wires
wire_facts mt m ops wires inputs fits once narrow ends = all_from WireFacts m.wires (λ k w found. fact k w found w.kind refl)
  where
    fact : (k : ℕ) (w : Wire) → slice_get m.wires k ≡ Some w → (kd : Kind) → w.kind ≡ kd → WireFacts w
    fact k w found kind.Input is = record {
      checks = (eq-eqb (number w.line.range.to) 0 (ends k w found), rw is tt);
      narrow = narrow_wire m.wires k w narrow found;
      few = rw is tt;
    }
    fact k w found kind.Plain is = record {
      checks = (eq-eqb (number w.line.range.to) 0 (ends k w found), rw is tt);
      narrow = narrow_wire m.wires k w narrow found;
      few = rw is tt;
    }
    fact k w found (kind.Register literal memory) is =
        let least : m.inputs ≤ k = not_input (ltb k m.inputs) refl in
        let place = once.driven k least (slice_get_within m.wires k w found) in
        let fit : WireFits w = driven_at m ops place.0 k fits place.1 w found in
        record {
          checks = (eq-eqb (number w.line.range.to) 0 (ends k w found), fit.kinds);
          narrow = narrow_wire m.wires k w narrow found;
          few = fit.few;
        }
      where
        not_input : (b : Bool) → ltb k m.inputs ≡ b → m.inputs ≤ k
        not_input false above = ltb-false k m.inputs above
        not_input true below =
            let less : k < length (inputs_of (ports_in mt)) = subst (λ (n : ℕ). k < n) inputs (ltb-true k m.inputs below) in
            let there : slice_get (map input_wire (inputs_of (ports_in mt)) ++ flat_map wires_by mt.items) k ≡ Some w = subst (λ (ws : List Wire). slice_get ws k ≡ Some w) wires found in
            absurd (no_register (sym is ∙ front_input (inputs_of (ports_in mt)) (flat_map wires_by mt.items) k w less there))
          where
            no_register : kind.Register literal memory ≡ kind.Input → ⊥
            no_register same = cc

-- what a module that stands in a text is
pub record ModuleWas (ports : Ports) (earl : List Module) (er : List ResolvedModule) (mt : Module) (nm : NetModule) : Type 0 where
  pub checked : ModuleChecked ports earl er mt
  pub net_is : nm ≡ net_module (made ports earl mt)

same_net : (x y : NetModule) → x.inputs ≡ y.inputs → x.widths ≡ y.widths → x.outputs ≡ y.outputs → x.cells ≡ y.cells → x ≡ y
same_net x y p q r s = λ i. record { inputs = p i; widths = q i; outputs = r i; cells = s i }

pub module_was : (ports : Ports) (earl : List Module) (er : List ResolvedModule) (mt : Module) (nm : NetModule) → ModuleFormed mt → AllByRecursion (λ (n : Module). Ordered 0 (ports_in n)) earl
    → EarlierFit earl er → is_among (module_names earl) (bytes_of mt.name) ≡ false → AllTrue (signal_checks None (signals_of (ports_in mt)))
    → DenotesModule ports (map module_of earl) (module_of mt) nm → NetWell (map net_module er) nm → ModuleWas ports earl er mt nm
module_was ports earl er mt nm formed ordered fits new signals d well =
    let m : ResolvedModule = made ports earl mt in
    let place : Place = place_in ports earl in
    let outs : List Line = outputs_of (ports_in mt) in
    let ds : List Driver = m.drivers in
    let ops : List Operand = flat_map drives ds in
    let none : NoOutput m m.wires = no_output mt m refl refl d.names in
    let scene : scene_in ports earl m ≡ scene_of ports (map module_of earl) (module_of mt) = ap (λ (o : List LineItem). a_scene ports earl o) (sym (outputs_said (ports_in mt))) in
    let items : ItemsAre (scene_in ports earl m) (map said (input_wires mt)) (map item_of mt.items) d.parts =
    subst (λ (ws : List Declared). ItemsAre (scene_in ports earl m) ws (map item_of mt.items) d.parts) (input_wires_said mt)
    (subst (λ (s : Scene). ItemsAre s (said_input_wires (module_of mt)) (map item_of mt.items) d.parts) (sym scene) d.items) in
    let were : ItemsWere ports earl er m (input_wires mt) mt.items d.parts = items_were ports earl er m (input_wires mt) mt.items d.parts ordered fits refl none items in
    let widths_eq : nm.widths ≡ wire_widths m = d.widths ∙ ap (map (λ (d : Declared). width_of d.line.range)) (wires_said mt) ∙ sym (widths_said (wires_of mt)) in
    let inputs_eq : nm.inputs ≡ m.inputs = d.inputs ∙ ap (λ (ls : List LineItem). length ls) (inputs_said (ports_in mt)) ∙ length-map (inputs_of (ports_in mt)) line_of in
    let cells_eq : nm.cells ≡ flat_map (cells_by m) ds = d.cells ∙ ap cells_of were.parts_are ∙ cells_are m place (input_wires mt) mt.items in
    let agree : AllByRecursion (WidthsAgree (map net_module er) (wire_widths m)) (cells_of d.parts) =
    subst (λ (cs : List Cell). AllByRecursion (WidthsAgree (map net_module er) (wire_widths m)) cs) d.cells
    (subst (λ (ns : List ℕ). AllByRecursion (WidthsAgree (map net_module er) ns) nm.cells) widths_eq well.agree) in
    let few : AllByRecursion HasFewWords (cells_of d.parts) = subst (AllByRecursion HasFewWords) d.cells well.few in
    let agrees : AllByRecursion (PartAgrees (map net_module er) (wire_widths m)) d.parts = parts_agree (map net_module er) (wire_widths m) d.parts agree few in
    let width_checks_hold : AllTrue (flat_map (driver_width_checks er m) ds) = were.widths agrees in
    let driven_ids : flat_map driven nm.cells ≡ map wire ops = ap (λ (cs : List Cell). flat_map driven cs) cells_eq ∙ cells_drive m ds in
    let long : length nm.widths ≡ length m.wires = ap (λ (ns : List ℕ). length ns) widths_eq ∙ length-map m.wires (λ (w : Wire). width w.line.range) in
    let once : EachOnce m.inputs (length m.wires) (wire_driven_at (map wire ops)) =
    subst (λ (i : ℕ). EachOnce i (length m.wires) (wire_driven_at (map wire ops))) inputs_eq
    (subst (λ (n : ℕ). EachOnce nm.inputs n (wire_driven_at (map wire ops))) long
    (subst (λ (ids : List WireId). EachOnce nm.inputs (length nm.widths) (wire_driven_at ids)) driven_ids well.once)) in
    let all_long : length m.wires ≡ m.inputs + length (flat_map wires_by mt.items) =
    length-append (input_wires mt) (flat_map wires_by mt.items) ∙ ap (λ (n : ℕ). n + length (flat_map wires_by mt.items)) (length-map (inputs_of (ports_in mt)) input_wire) in
    let count : length (own_names m) ≡ length m.wires - m.inputs = length-map (drop m.inputs m.wires) (λ (w : Wire). w.line.name) ∙ length-drop m.inputs m.wires in
    let driver_lists = each_checked m.inputs (length m.wires) ops (own_names m) (within (length m.wires) m.inputs (length (flat_map wires_by mt.items)) all_long) count once in
    let narrow : Narrow (wire_widths m) = narrow_of (wire_widths m) (subst (AllByRecursion IsWireWidth) widths_eq well.narrow) in
    let ranges_all : AllByRecursion EndsAtZero (map line_of outs ++ map (λ (d : Declared). d.line) (map said (wires_of mt))) =
    subst (λ (ws : List Declared). AllByRecursion EndsAtZero (map line_of outs ++ map (λ (d : Declared). d.line) ws)) (wires_said mt)
    (subst (λ (os : List LineItem). AllByRecursion EndsAtZero (os ++ map (λ (d : Declared). d.line) (said_wires (module_of mt)))) (outputs_said (ports_in mt)) d.ranges) in
    let out_ranges : AllByRecursion EndsAtZero (map line_of outs) = all_front EndsAtZero (map line_of outs) (map (λ (d : Declared). d.line) (map said (wires_of mt))) ranges_all in
    let wire_ranges : AllByRecursion EndsAtZero (map (λ (d : Declared). d.line) (map said (wires_of mt))) = all_back EndsAtZero (map line_of outs) (map (λ (d : Declared). d.line) (map said (wires_of mt))) ranges_all in
    let facts : AllByRecursion WireFacts m.wires = wire_facts mt m ops refl refl (were.driven agrees) once narrow (λ k w found. wires_end_at (wires_of mt) k w wire_ranges found) in
    let out_count : length nm.outputs ≡ length outs = d.outputs ∙ ap (λ (ls : List LineItem). length ls) (outputs_said (ports_in mt)) ∙ length-map outs line_of in
    let shown_so : (k : ℕ) (a : WireId) → slice_get nm.outputs k ≡ Some a → flat_map (shown_by k) ds ≡ a ∷ [] =
    (λ k a found. sym (shown_are m place k (input_wires mt) mt.items) ∙ sym (ap (assigned_to k) were.parts_are) ∙ d.assigned k a found) in
    let below : AllByRecursion (Below (length outs)) ds = outputs_below place m (input_wires mt) mt.items in
    let apart_so : Apart [] (all_shown ds) = shown_are_apart [] ds (λ k. at_most k (length outs) (leb (length outs) k) refl nm.outputs out_count (shown_so k) below) (λ k is. absurd (false≢true is)) in
    let here : (k : ℕ) → k < length outs → is_one_of (all_shown ds) k ≡ true =
    (λ k less. let found = got_within nm.outputs k (subst (λ (n : ℕ). k < n) (sym out_count) less) in some_shown ds k found.0 (shown_so k found.0 found.1)) in
    let all_here : AllTrue (undriven_checks (all_shown ds) 0 (map (λ (l : Line). l.name) outs)) =
    undriven_hold (all_shown ds) 0 (map (λ (l : Line). l.name) outs) (λ k less. from_zero (all_shown ds) k (here k (subst (λ (n : ℕ). k < n) (length-map outs (λ (l : Line). l.name)) less))) in
    let outs_narrow : AllByRecursion NarrowLine outs = all_from NarrowLine outs (λ k l found.
    subst (λ (n : ℕ). n ≤ WIRE_BITS) (width_at outs k l found) (shown_narrow er m ds k narrow width_checks_hold (here k (slice_get_within outs k l found)))) in
    let outputs_eq : nm.outputs ≡ shown_wires ds 0 outs = shown_list ds 0 outs nm.outputs out_count (λ k a found.
    let first : flat_map (shown_by k) ds ≡ shown_wire ds k ∷ [] = shown_once [] ds k apart_so (some_shown ds k a (shown_so k a found)) in
    let same : shown_wire ds k ∷ [] ≡ a ∷ [] = sym first ∙ shown_so k a found in
    zero_wire ds k a (one_wire same)) in
    record {
      checked = record {
        new = new;
        formed = formed;
        port_limits_hold = ports_limited (ports_in mt) (inputs_narrow (inputs_of (ports_in mt)) (flat_map wires_by mt.items) facts) outs_narrow;
        item_limits_hold = items_limited ports earl er m (input_wires mt) mt.items refl narrow (all_back WireFacts (input_wires mt) (flat_map wires_by mt.items) facts) were.names width_checks_hold;
        order = in_order_back (ports_in mt) d.order;
        signals = signals;
        once = distinct_names mt d.names;
        items = were.names;
        ranges = outputs_end_back outs out_ranges;
        wires = all_parts wire_checks m.wires (wire_lists m.wires facts);
        widths = width_checks_hold;
        all_shown_hold = all_here;
        all_driven_hold = driver_lists.1;
        driven_hold = driver_lists.0;
        shown_hold = shown_hold [] (flat_map shows ds) apart_so;
        ordered = ordered;
      };
      net_is = same_net nm (net_module m) inputs_eq widths_eq outputs_eq cells_eq;
    }
  where
    within : (all inputs more : ℕ) → all ≡ inputs + more → inputs ≤ all
    within all inputs more is = omega arith

    got_within : (xs : List WireId) (n : ℕ) → n < length xs → (x : WireId) × (slice_get xs n ≡ Some x)
    got_within [] n less = absurd (omega arith)
    got_within (x ∷ xs) zero less = (x, refl)
    got_within (x ∷ xs) (suc n) less = got_within xs n (omega arith)

    from_zero : (ns : List ℕ) (k : ℕ) → is_one_of ns k ≡ true → is_one_of ns (0 + k) ≡ true
    from_zero ns k is = let none : 0 + k ≡ k = omega arith in rw none is

    zero_wire : (ds : List Driver) (k : ℕ) (a : WireId) → shown_wire ds k ≡ a → shown_wire ds (0 + k) ≡ a
    zero_wire ds k a is = let none : 0 + k ≡ k = omega arith in rw none is

    one_wire : {v w : WireId} → v ∷ [] ≡ w ∷ [] → v ≡ w
    one_wire same = cc

    wire_lists : (ws : List Wire) → AllByRecursion WireFacts ws → AllByRecursion (λ (w : Wire). AllTrue (wire_checks w)) ws
    wire_lists [] facts = tt
    wire_lists (w ∷ ws) facts = (facts.0.checks, wire_lists ws facts.1)

    at_most : (k n : ℕ) (b : Bool) → leb n k ≡ b → (xs : List WireId) → length xs ≡ n → ((a : WireId) → slice_get xs k ≡ Some a → flat_map (shown_by k) (made ports earl mt).drivers ≡ a ∷ [])
        → AllByRecursion (Below n) (made ports earl mt).drivers → length (flat_map (shown_by k) (made ports earl mt).drivers) ≤ 1
    at_most k n true least xs count all below =
        let none : flat_map (shown_by k) (made ports earl mt).drivers ≡ [] = none_above n (made ports earl mt).drivers k below (leb-true n k least) in rw none (omega arith)
    at_most k n false less xs count all below =
        let found = got_within xs k (subst (λ (j : ℕ). k < j) (sym count) (leb-false n k less)) in
        let one : flat_map (shown_by k) (made ports earl mt).drivers ≡ found.0 ∷ [] = all found.0 found.1 in rw one (omega arith)
