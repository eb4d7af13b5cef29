-- A module that stands in a text that denotes a net passes its checks.
use Rattle.std.proofs.Common.{◌≡◌, ℕ, zero, suc, ◌+◌, ◌<◌, ◌≤◌, Bool, true, false, cond, eqb, ◌||◌, List, [], ◌∷◌, ◌++◌, length, map, Option, Some, None, refl, sym, ap, ◌∙◌, subst, append_assoc, arith}
use Rattle.std.specs.Prelude.{is_some, slice_get, slice_index}
use Rattle.std.specs.List.{AllByRecursion, flat_map}
use Rattle.std.proofs.lemmas.Bool.{eq-eqb, eqb-true, false≢true, le-leb, lt-ltb, ne_eqb}
use Rattle.std.proofs.lemmas.List.{length-map}
use Rattle.std.proofs.lemmas.List.Concat.{flat_map-append}
use Rattle.std.proofs.lemmas.Option.{same_Some}
use Rattle.chw_base.specs.declared.index.WireId.{WireId}
use Rattle.chw_base.specs.declared.limits.TheConstants.{WIRE_BITS}
use Rattle.chw_clock.specs.declared.event.Ports.{Ports}
use Rattle.name_tables.specs.Names.{AreDistinct, is_among, place_of}
use Rattle.net_rules.specs.WellFormed.{HasFewWords, WidthsAgree, wire_driven_at}
use Rattle.netlist.specs.Wires.{driven}
use Rattle.netlist.specs.declared.net.Module.{Module as NetModule}
use Rattle.verilog_text.specs.Declared.{name_of, names_of, other_names, value}
use Rattle.verilog_text.specs.Declared.{outputs_of as source_outputs, signals_of as source_signals}
use Rattle.verilog_text.specs.Declared.{wires_of as said_wires}
use Rattle.verilog_text.specs.Denotes.{Part, cells_of}
use Rattle.verilog_text.specs.Denotes.Part.{a_cell, an_output, declaration}
use Rattle.verilog_text.specs.Source.{Line as LineItem, all_of}
use Rattle.verilog_text.proofs.Places.{among_left, apart, distinct_right}
use Rattle.verilog_tree.specs.Sources.{bytes_of, module_of}
use Rattle.verilog_tree.specs.declared.item.Item.{Item}
use Rattle.verilog_tree.specs.declared.item.Item.TheVariants as item
use Rattle.verilog_tree.specs.declared.item.Memory.{Memory}
use Rattle.verilog_tree.specs.declared.module.Module.{Module}
use Rattle.verilog_tree.specs.declared.module.Port.{Port}
use Rattle.verilog_tree.specs.declared.module.Port.TheVariants.{Input, Output, Signal}
use Rattle.verilog_tree.specs.declared.right.Right.{Right}
use Rattle.verilog_tree.specs.declared.right.Right.TheVariants as right
use Rattle.verilog_tree.specs.declared.word.Line.{Line}
use Rattle.verilog_tree.specs.declared.word.Word.{Word}
use Rattle.verilog_rules.specs.Declarations.{input_wire, inputs_of, line_name, outputs_of, ports_in, wire_name, wires_by, wires_of}
use Rattle.verilog_rules.specs.DriverRules.{all_shown, is_one_of}
use Rattle.verilog_rules.specs.Limits.{item_limits, port_limits}
use Rattle.verilog_rules.specs.NameRules.{Place, item_checks, items_checks, kind_of}
use Rattle.verilog_rules.specs.NetOf.{shown_wire, shown_wires, wire}
use Rattle.verilog_rules.specs.Resolving.{assigned_at, driver_of, drivers_of}
use Rattle.verilog_rules.specs.Texts.{number, width}
use Rattle.verilog_rules.specs.WidthRules.{driver_width_checks, wide, widths_of, wire_checks, wire_widths}
use Rattle.verilog_rules.specs.declared.resolved.Driver.{Driver}
use Rattle.verilog_rules.specs.declared.resolved.Driver.TheVariants as driver
use Rattle.verilog_rules.specs.declared.resolved.Kind.{Kind}
use Rattle.verilog_rules.specs.declared.resolved.Kind.TheVariants as kind
use Rattle.verilog_rules.specs.declared.resolved.Operand.{Operand}
use Rattle.verilog_rules.specs.declared.resolved.ResolvedModule.{ResolvedModule}
use Rattle.verilog_rules.specs.declared.resolved.Wire.{Wire}
use Rattle.verilog_rules.proofs.Apart.{Apart, neither, not_one_of_both}
use Rattle.verilog_rules.proofs.Connections.{outputs_said}
use Rattle.verilog_rules.proofs.Denoting.{wires_said}
use Rattle.verilog_rules.proofs.Driven.{none_shown}
use Rattle.verilog_rules.proofs.Holding.{AllTrue, both_parts, first_part, second_part}
use Rattle.verilog_rules.proofs.Items.{lines_said, output_names, place_in}
use Rattle.verilog_rules.proofs.Operands.{known_kind, names_said}
use Rattle.verilog_rules.proofs.Parts.{all_back, all_both, all_front, extends_by, shown_by}
use Rattle.verilog_rules.proofs.Tops.{place_got}
use Rattle.verilog_rules.proofs.WasItems.{DrivenFits, NoOutput, PartAgrees, WireFits}
use Rattle.verilog_rules.proofs.WasModules.{Narrow, driver_limited, literal_limited, narrow_at, word_limited}
use Rattle.verilog_rules.proofs.Wires.{HasFewPlaces}

-- what is known of each wire
pub record WireFacts (w : Wire) : Type 0 where
  pub checks : AllTrue (wire_checks w)
  pub narrow : width w.line.range ≤ WIRE_BITS
  pub few : HasFewPlaces w.kind

pub all_from : {A : Type 0} (P : A → Type 0) (xs : List A) → ((k : ℕ) (x : A) → slice_get xs k ≡ Some x → P x) → AllByRecursion P xs
all_from P [] all = tt
all_from P (x ∷ xs) all = (all 0 x refl, all_from P xs (λ k y found. all (suc k) y found))

pub parts_agree : (earlier : List NetModule) (widths : List ℕ) (parts : List Part) → AllByRecursion (WidthsAgree earlier widths) (cells_of parts) → AllByRecursion HasFewWords (cells_of parts)
    → AllByRecursion (PartAgrees earlier widths) parts
parts_agree earlier widths [] agree few = tt
parts_agree earlier widths (declaration ∷ parts) agree few = (tt, parts_agree earlier widths parts agree few)
parts_agree earlier widths (an_output k a ∷ parts) agree few = (tt, parts_agree earlier widths parts agree few)
parts_agree earlier widths (a_cell c ∷ parts) agree few = ((agree.0, few.0), parts_agree earlier widths parts agree.1 few.1)

-- LIMITS

register_limited : (l : Line) (literal : Word) (memory : Option Memory) → WireFacts (record { line = l; kind = kind.Register literal memory }) → AllTrue (item_limits (item.Register l literal memory))
register_limited l literal None facts =
    (le-leb (width l.range) WIRE_BITS facts.narrow, (word_limited (width l.range) literal facts.narrow facts.checks.1.0, tt))
register_limited l literal (Some memory) facts = (
  le-leb (width l.range) WIRE_BITS facts.narrow,
  (
    literal_limited (width l.range) 0 literal facts.narrow facts.checks.1.0,
    (
      le-leb (width memory.width) WIRE_BITS (same_below (width memory.width) (width l.range) (eqb-true (width memory.width) (width l.range) facts.checks.1.1.1.0) facts.narrow),
      (lt-ltb (number memory.places.to) 1024 facts.few, tt),
    ),
  ),
)
  where
    same_below : (a b : ℕ) → a ≡ b → b ≤ WIRE_BITS → a ≤ WIRE_BITS
    same_below a b is below = subst (λ (n : ℕ). n ≤ WIRE_BITS) (sym is) below

pub items_limited : (ports : Ports) (earl : List Module) (er : List ResolvedModule) (m : ResolvedModule) (ws : List Wire) (items : List Item) → m.wires ≡ ws ++ flat_map wires_by items → Narrow (wire_widths m)
    → AllByRecursion WireFacts (flat_map wires_by items) → AllTrue (items_checks (place_in ports earl) (output_names m) ws items)
    → AllTrue (flat_map (driver_width_checks er m) (drivers_of (place_in ports earl) (output_names m) ws items)) → AllTrue (flat_map item_limits items)
items_limited ports earl er m ws [] full narrow facts names widths = tt
items_limited ports earl er m ws (it ∷ items) full narrow facts names widths =
    let p : Place = place_in ports earl in
    let here : List Driver = driver_of p (output_names m) ws it in
    let later : List Driver = drivers_of p (output_names m) (ws ++ wires_by it) items in
    let all : AllTrue (flat_map (driver_width_checks er m) here ++ flat_map (driver_width_checks er m) later) = subst AllTrue (flat_map-append (driver_width_checks er m) here later) widths in
    let more : m.wires ≡ (ws ++ wires_by it) ++ flat_map wires_by items = full ∙ sym (append_assoc ws (wires_by it) (flat_map wires_by items)) in
    let limited = driver_limited ports earl er m ws it (extends_by ws (wires_by it ++ flat_map wires_by items) m.wires full) narrow
    (first_part (item_checks p (output_names m) ws it) (items_checks p (output_names m) (ws ++ wires_by it) items) names)
    (first_part (flat_map (driver_width_checks er m) here) (flat_map (driver_width_checks er m) later) all) in
    both_parts (item_limits it) (flat_map item_limits items) (of_item it (all_front WireFacts (wires_by it) (flat_map wires_by items) facts) limited)
    (items_limited ports earl er m (ws ++ wires_by it) items more narrow (all_back WireFacts (wires_by it) (flat_map wires_by items) facts)
    (second_part (item_checks p (output_names m) ws it) (items_checks p (output_names m) (ws ++ wires_by it) items) names)
    (second_part (flat_map (driver_width_checks er m) here) (flat_map (driver_width_checks er m) later) all))
  where
    of_item : (it : Item) → AllByRecursion WireFacts (wires_by it) → ((d : Driver) → driver_of (place_in ports earl) (output_names m) ws it ≡ d ∷ [] → AllTrue (item_limits it)) → AllTrue (item_limits it)
    of_item (item.Wire l) facts limited = (le-leb (width l.range) WIRE_BITS facts.0.narrow, tt)
    of_item (item.Register l literal memory) facts limited = register_limited l literal memory facts.0
    of_item (item.Assign name r) facts limited = limited _ refl
    of_item (item.Edge edge) facts limited = limited _ refl
    of_item (item.Ram ram) facts limited = limited _ refl
    of_item (item.Use u) facts limited = tt

abbrev pub NarrowLine : Line → Type 0
NarrowLine l = width l.range ≤ WIRE_BITS

pub ports_limited : (ports : List Port) → AllByRecursion NarrowLine (inputs_of ports) → AllByRecursion NarrowLine (outputs_of ports) → AllTrue (flat_map port_limits ports)
ports_limited [] ins outs = tt
ports_limited (Signal s ∷ ports) ins outs = ports_limited ports ins outs
ports_limited (Input l ∷ ports) ins outs = (le-leb (width l.range) WIRE_BITS ins.0, ports_limited ports ins.1 outs)
ports_limited (Output l ∷ ports) ins outs = (le-leb (width l.range) WIRE_BITS outs.0, ports_limited ports ins outs.1)

pub inputs_narrow : (ls : List Line) (ws : List Wire) → AllByRecursion WireFacts (map input_wire ls ++ ws) → AllByRecursion NarrowLine ls
inputs_narrow [] ws facts = tt
inputs_narrow (l ∷ ls) ws facts = (facts.0.narrow, inputs_narrow ls ws facts.1)

-- OUTPUTS

pub shown_narrow : (er : List ResolvedModule) (m : ResolvedModule) (ds : List Driver) (k : ℕ) → Narrow (wire_widths m) → AllTrue (flat_map (driver_width_checks er m) ds) → is_one_of (all_shown ds) k ≡ true
    → slice_index (widths_of m.outputs) k ≤ WIRE_BITS
shown_narrow er m [] k narrow all is = absurd (false≢true is)
shown_narrow er m (driver.Assign w value ∷ ds) k narrow all is =
    shown_narrow er m ds k narrow (second_part (driver_width_checks er m (driver.Assign w value)) (flat_map (driver_width_checks er m) ds) all) is
shown_narrow er m (driver.Register w domain reset a ∷ ds) k narrow all is =
    shown_narrow er m ds k narrow (second_part (driver_width_checks er m (driver.Register w domain reset a)) (flat_map (driver_width_checks er m) ds) all) is
shown_narrow er m (driver.Ram ram ∷ ds) k narrow all is =
    shown_narrow er m ds k narrow (second_part (driver_width_checks er m (driver.Ram ram)) (flat_map (driver_width_checks er m) ds) all) is
shown_narrow er m (driver.Use used reads driven ∷ ds) k narrow all is =
    shown_narrow er m ds k narrow (second_part (driver_width_checks er m (driver.Use used reads driven)) (flat_map (driver_width_checks er m) ds) all) is
shown_narrow er m (driver.Output j at a ∷ ds) k narrow all is =
    by_case (eqb j k) refl is (shown_narrow er m ds k narrow all.1)
  where
    by_case : (b : Bool) → eqb j k ≡ b → (b || is_one_of (all_shown ds) k) ≡ true → (is_one_of (all_shown ds) k ≡ true → slice_index (widths_of m.outputs) k ≤ WIRE_BITS)
        → slice_index (widths_of m.outputs) k ≤ WIRE_BITS
    by_case true same so later =
        let wide_is : wide (wire_widths m) a ≡ slice_index (widths_of m.outputs) j = eqb-true (wide (wire_widths m) a) (slice_index (widths_of m.outputs) j) all.0 in
        subst (λ (n : ℕ). slice_index (widths_of m.outputs) n ≤ WIRE_BITS) (eqb-true j k same)
        (subst (λ (n : ℕ). n ≤ WIRE_BITS) wide_is (narrow_at (wire_widths m) a.wire.number narrow))
    by_case false other so later = later so

-- an output that has a wire is among those that are assigned
pub some_shown : (ds : List Driver) (k : ℕ) (a : WireId) → flat_map (shown_by k) ds ≡ a ∷ [] → is_one_of (all_shown ds) k ≡ true
some_shown ds k a is = by_case (is_one_of (all_shown ds) k) refl
  where
    by_case : (b : Bool) → is_one_of (all_shown ds) k ≡ b → b ≡ true
    by_case true same = refl
    by_case false same = absurd (no_list (sym (none_shown ds k same) ∙ is))
      where
        no_list : [] ≡ a ∷ [] → ⊥
        no_list same = cc

-- outputs that are each assigned at most once are apart
pub shown_are_apart : (before : List ℕ) (ds : List Driver) → ((k : ℕ) → length (flat_map (shown_by k) ds) ≤ 1) → ((k : ℕ) → is_one_of before k ≡ true → length (flat_map (shown_by k) ds) ≡ 0)
    → Apart before (all_shown ds)
shown_are_apart before [] few none = tt
shown_are_apart before (driver.Assign w value ∷ ds) few none = shown_are_apart before ds few none
shown_are_apart before (driver.Register w domain reset a ∷ ds) few none = shown_are_apart before ds few none
shown_are_apart before (driver.Ram ram ∷ ds) few none = shown_are_apart before ds few none
shown_are_apart before (driver.Use used reads driven ∷ ds) few none = shown_are_apart before ds few none
shown_are_apart before (driver.Output j at a ∷ ds) few none = (
  not_before (is_one_of before j) refl,
  shown_are_apart (before ++ j ∷ []) ds (λ k. fewer k (eqb j k) (few k)) (λ k is. none_later k (eqb j k) refl (few k) (none k) is),
)
  where
    self : length (cond (eqb j j) (a.wire ∷ []) [] ++ flat_map (shown_by j) ds) ≡ suc (length (flat_map (shown_by j) ds))
    self = ap (λ (b : Bool). length (cond b (a.wire ∷ []) [] ++ flat_map (shown_by j) ds)) (eq-eqb j j refl)

    not_before : (b : Bool) → is_one_of before j ≡ b → b ≡ false
    not_before false is = refl
    not_before true is = absurd (suc_not (length (flat_map (shown_by j) ds)) (sym self ∙ none j is))
      where
        suc_not : (n : ℕ) → suc n ≡ 0 → ⊥
        suc_not n same = omega arith

    fewer : (k : ℕ) (b : Bool) → length (cond b (a.wire ∷ []) [] ++ flat_map (shown_by k) ds) ≤ 1 → length (flat_map (shown_by k) ds) ≤ 1
    fewer k true less = omega arith
    fewer k false less = less

    none_later : (k : ℕ) (b : Bool) → eqb j k ≡ b → length (cond b (a.wire ∷ []) [] ++ flat_map (shown_by k) ds) ≤ 1
        → (is_one_of before k ≡ true → length (cond b (a.wire ∷ []) [] ++ flat_map (shown_by k) ds) ≡ 0) → is_one_of (before ++ j ∷ []) k ≡ true → length (flat_map (shown_by k) ds) ≡ 0
    none_later k true same less zeroth is = omega arith
    none_later k false other less zeroth is = by_before (is_one_of before k) refl
      where
        by_before : (c : Bool) → is_one_of before k ≡ c → length (flat_map (shown_by k) ds) ≡ 0
        by_before true here = zeroth here
        by_before false absent = absurd (false≢true (sym (not_one_of_both before (j ∷ []) k absent (neither (eqb j k) false other refl)) ∙ is))

abbrev pub Below : ℕ → Driver → Type 0
Below n (driver.Output j at a) = j < n
Below n _ = Unit {0}

pub outputs_below : (place : Place) (m : ResolvedModule) (ws : List Wire) (items : List Item) → AllByRecursion (Below (length m.outputs)) (drivers_of place (output_names m) ws items)
outputs_below place m ws [] = tt
outputs_below place m ws (it ∷ items) =
    all_both (Below (length m.outputs)) (driver_of place (output_names m) ws it) (drivers_of place (output_names m) (ws ++ wires_by it) items) (of_item it) (outputs_below place m (ws ++ wires_by it) items)
  where
    of_assign : (name : Word) (r : Right) (o : Option ℕ) → place_of (output_names m) (bytes_of name) ≡ o → Below (length m.outputs) (assigned_at o ws name r)
    of_assign name r None is = tt
    of_assign name (right.Copy a) (Some k) is =
        subst (λ (n : ℕ). k < n) (length-map m.outputs line_name) (place_got (output_names m) (bytes_of name) k is).1
    of_assign name (right.Constant literal) (Some k) is = tt
    of_assign name (right.Join parts) (Some k) is = tt
    of_assign name (right.Cut a range) (Some k) is = tt
    of_assign name (right.Unary op sign a) (Some k) is = tt
    of_assign name (right.Binary op sign a b) (Some k) is = tt
    of_assign name (right.Choice c a b) (Some k) is = tt

    of_item : (it : Item) → AllByRecursion (Below (length m.outputs)) (driver_of place (output_names m) ws it)
    of_item (item.Wire l) = tt
    of_item (item.Register l literal memory) = tt
    of_item (item.Assign name r) = (of_assign name r (place_of (output_names m) (bytes_of name)) refl, tt)
    of_item (item.Edge edge) = (tt, tt)
    of_item (item.Ram ram) = (tt, tt)
    of_item (item.Use u) = (tt, tt)

pub none_above : (n : ℕ) (ds : List Driver) (k : ℕ) → AllByRecursion (Below n) ds → n ≤ k → flat_map (shown_by k) ds ≡ []
none_above n [] k all least = refl
none_above n (driver.Assign w value ∷ ds) k all least = none_above n ds k all.1 least
none_above n (driver.Register w domain reset a ∷ ds) k all least = none_above n ds k all.1 least
none_above n (driver.Ram ram ∷ ds) k all least = none_above n ds k all.1 least
none_above n (driver.Use used reads driven ∷ ds) k all least = none_above n ds k all.1 least
none_above n (driver.Output j at a ∷ ds) k all least =
    let less : j < n = all.0 in
    let other : eqb j k ≡ false = ne_eqb j k (λ same. omega arith) in
    ap (λ (b : Bool). cond b (a.wire ∷ []) [] ++ flat_map (shown_by k) ds) other ∙ none_above n ds k all.1 least

-- wires of outputs are those that are shown
pub shown_list : (drivers : List Driver) (from : ℕ) (ls : List Line) (xs : List WireId) → length xs ≡ length ls → ((k : ℕ) (a : WireId) → slice_get xs k ≡ Some a → shown_wire drivers (from + k) ≡ a)
    → xs ≡ shown_wires drivers from ls
shown_list drivers from [] [] count all = refl
shown_list drivers from [] (x ∷ xs) count all = absurd (suc_not (length xs) count)
  where
    suc_not : (n : ℕ) → suc n ≡ 0 → ⊥
    suc_not n same = omega arith
shown_list drivers from (l ∷ ls) [] count all = absurd (zero_not (length ls) count)
  where
    zero_not : (n : ℕ) → 0 ≡ suc n → ⊥
    zero_not n same = omega arith
shown_list drivers from (l ∷ ls) (x ∷ xs) count all =
    let none : from + 0 ≡ from = omega arith in
    let first : shown_wire drivers from ≡ x = rw none at (all 0 x refl) in
    longer (sym first) (shown_list drivers (from + 1) ls xs (same_count (length xs) (length ls) count) (λ k a found. next k a (all (suc k) a found)))
  where
    same_count : (a b : ℕ) → suc a ≡ suc b → a ≡ b
    same_count a b same = omega arith

    next : (k : ℕ) (a : WireId) → shown_wire drivers (from + suc k) ≡ a → shown_wire drivers (from + 1 + k) ≡ a
    next k a is = let same : from + suc k ≡ from + 1 + k = omega arith in rw same at is

    longer : {v w : WireId} {vs ws : List WireId} → v ≡ w → vs ≡ ws → v ∷ vs ≡ w ∷ ws
    longer p q = λ i. p i ∷ q i

-- NAMES APART

kind_among : (ws : List Wire) (name : List ℕ) → is_some (kind_of ws name) ≡ true → is_among (map wire_name ws) name ≡ true
kind_among ws name is = by_case (kind_of ws name) refl is
  where
    by_case : (o : Option Kind) → kind_of ws name ≡ o → is_some o ≡ true → is_among (map wire_name ws) name ≡ true
    by_case None at some = absurd (false≢true some)
    by_case (Some k) at some = let known = known_kind ws name k at in ap is_some known.1

pub no_output : (mt : Module) (m : ResolvedModule) → m.outputs ≡ outputs_of (ports_in mt) → m.wires ≡ wires_of mt → AreDistinct (names_of (module_of mt)) → NoOutput m m.wires
no_output mt m outs wires distinct name is = by_case (place_of (output_names m) name) refl
  where
    by_case : (o : Option ℕ) → place_of (output_names m) name ≡ o → o ≡ None
    by_case None at = refl
    by_case (Some k) at =
        let among_outputs : is_among (map line_name (outputs_of (ports_in mt))) name ≡ true = subst (λ (ls : List Line). is_among (map line_name ls) name ≡ true) outs (ap is_some at) in
        let said_outs : map (λ (l : LineItem). l.name) (source_outputs (all_of (module_of mt).ports)) ≡ map line_name (outputs_of (ports_in mt)) =
        ap (map (λ (l : LineItem). l.name)) (outputs_said (ports_in mt)) ∙ lines_said (outputs_of (ports_in mt)) in
        let in_outputs : is_among (map (λ (l : LineItem). l.name) (source_outputs (all_of (module_of mt).ports))) name ≡ true = subst (λ (ns : List (List ℕ)). is_among ns name ≡ true) (sym said_outs) among_outputs in
        let among_wires : is_among (map wire_name (wires_of mt)) name ≡ true = subst (λ (ws : List Wire). is_among (map wire_name ws) name ≡ true) wires (kind_among m.wires name is) in
        let in_wires : is_among (map name_of (said_wires (module_of mt))) name ≡ true =
        subst (λ (ns : List (List ℕ)). is_among ns name ≡ true) (sym (ap (map name_of) (wires_said mt) ∙ names_said (wires_of mt))) among_wires in
        let rest : AreDistinct (map (λ (l : LineItem). l.name) (source_outputs (all_of (module_of mt).ports)) ++ (map name_of (said_wires (module_of mt)) ++ flat_map other_names (module_of mt).items)) =
        distinct_right (source_signals (all_of (module_of mt).ports)) (map (λ (l : LineItem). l.name) (source_outputs (all_of (module_of mt).ports)) ++ (map name_of (said_wires (module_of mt)) ++ flat_map other_names (module_of mt).items)) distinct in
        absurd (apart (map (λ (l : LineItem). l.name) (source_outputs (all_of (module_of mt).ports))) (map name_of (said_wires (module_of mt)) ++ flat_map other_names (module_of mt).items) name rest in_outputs
        (among_left (map name_of (said_wires (module_of mt))) (flat_map other_names (module_of mt).items) name in_wires))

-- WIRES

pub front_input : (ls : List Line) (ws : List Wire) (k : ℕ) (w : Wire) → k < length ls → slice_get (map input_wire ls ++ ws) k ≡ Some w → w.kind ≡ kind.Input
front_input [] ws k w below found = absurd (omega arith)
front_input (l ∷ ls) ws zero w below found = ap (λ (x : Wire). x.kind) (sym (same_Some (input_wire l) w found))
front_input (l ∷ ls) ws (suc k) w below found = front_input ls ws k w (omega arith) found

-- a driven wire fits
pub driven_at : (m : ResolvedModule) (ops : List Operand) (p k : ℕ) → AllByRecursion (DrivenFits m) ops → wire_driven_at (map wire ops) p ≡ Some k → (w : Wire) → slice_get m.wires k ≡ Some w → WireFits w
driven_at m [] p k all at w found = absurd (cc)
driven_at m (a ∷ ops) zero k all at w found = all.0 w (subst (λ (n : ℕ). slice_get m.wires n ≡ Some w) (sym (same_Some a.wire.number k at)) found)
driven_at m (a ∷ ops) (suc p) k all at w found = driven_at m ops p k all.1 at w found
