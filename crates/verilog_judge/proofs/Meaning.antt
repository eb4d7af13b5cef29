-- What all rules say of the literals and cuts of a text with its names resolved.
use Rattle.std.proofs.Common.{◌≡◌, ℕ, zero, suc, ◌+◌, ◌-◌, ◌<◌, ◌≤◌, ◌^◌, true, eqb, leb, List, [], ◌∷◌, ◌++◌, map, Option, Some, None, slice_index, refl, sym, ap, subst, ◌∙◌, arith, append_assoc}
use Rattle.std.specs.List.{AllByRecursion, flat_map}
use Rattle.std.proofs.lemmas.Bool.{and_parts, leb-true, ltb-true}
use Rattle.std.proofs.lemmas.List.Concat.{flat_map-append}
use Rattle.chw_base.specs.declared.limits.TheConstants.{WIRE_BITS}
use Rattle.chw_clock.specs.declared.event.Ports.{Ports}
use Rattle.name_tables.specs.Names.{place_of}
use Rattle.verilog_judge.specs.Meant.{AreMeant, AreMeantKinds, AreMeantWords, IsCut, IsMeant, IsMeantDriver, IsMeantKind, IsMeantModule}
use Rattle.verilog_judge.specs.Read.{AreNarrowWires}
use Rattle.verilog_rules.specs.Declarations.{input_wires, line_name, outputs_of, ports_in, wires_by, wires_of}
use Rattle.verilog_rules.specs.NameRules.{Place, item_checks, items_checks, kind_of, memory_checks, access_checks, ram_checks}
use Rattle.verilog_rules.specs.Resolving.{assigned_at, driver_of, drivers_of, operand, ram_of, resolved_modules}
use Rattle.verilog_rules.specs.Texts.{amount, is_literal_of, is_word_of, number, width}
use Rattle.verilog_rules.specs.WidthRules.{count_of, cut_checks, driver_width_checks, kind_at, kind_checks, memory_of, ram_width_checks, wide, word_checks, words_checks}
use Rattle.verilog_rules.specs.declared.resolved.Driver.{Driver}
use Rattle.verilog_rules.specs.declared.resolved.Kind.{Kind}
use Rattle.verilog_rules.specs.declared.resolved.Kind.TheVariants as kind
use Rattle.verilog_rules.specs.declared.resolved.Operand.{Operand}
use Rattle.verilog_rules.specs.declared.resolved.RamOf.{RamOf}
use Rattle.verilog_rules.specs.declared.resolved.ResolvedModule.{ResolvedModule}
use Rattle.verilog_rules.specs.declared.resolved.Wire.{Wire}
use Rattle.verilog_rules.proofs.Denoting.{ModuleChecked, made}
use Rattle.verilog_rules.proofs.Holding.{AllTrue, first_part, second_part}
use Rattle.verilog_rules.proofs.Items.{ItemFormed, place_in}
use Rattle.verilog_rules.proofs.Literals.{is_word, literal_parts, word_parts}
use Rattle.verilog_rules.proofs.Operands.{Known, known_as, kind_is}
use Rattle.verilog_rules.proofs.Parts.{all_both, extends_by}
use Rattle.verilog_rules.proofs.Rams.{from_clock, from_end, from_value}
use Rattle.verilog_rules.proofs.Texts.{AllChecked}
use Rattle.verilog_rules.proofs.Values.{LiteralsIn}
use Rattle.verilog_rules.proofs.Wires.{Extends, KindFormed, WireHolds, kind_there, showing, widths_in}
use Rattle.verilog_rules.proofs.WiresHold.{wires_hold}
use Rattle.verilog_text.specs.VForms.{IsLiteral}
use Rattle.verilog_tree.specs.Sources.{bytes_of}
use Rattle.verilog_tree.specs.declared.item.FirstWord.{FirstWord}
use Rattle.verilog_tree.specs.declared.item.Item.{Item}
use Rattle.verilog_tree.specs.declared.item.Item.TheVariants as item
use Rattle.verilog_tree.specs.declared.item.Memory.{Memory}
use Rattle.verilog_tree.specs.declared.item.Ram.{Ram}
use Rattle.verilog_tree.specs.declared.module.Module.{Module}
use Rattle.verilog_tree.specs.declared.right.Right.{Right}
use Rattle.verilog_tree.specs.declared.right.Right.TheVariants as right
use Rattle.verilog_tree.specs.declared.word.Range.{Range}
use Rattle.verilog_tree.specs.declared.word.Word.{Word}

-- LITERALS

of_size : (n : ℕ) (literal : Word) → IsLiteral (bytes_of literal) → n ≤ WIRE_BITS → is_word_of n literal ≡ true → IsMeant literal
of_size n literal formed le is =
    let parts = word_parts n literal is in
    record {
      formed = formed;
      narrow = subst (λ k. k ≤ WIRE_BITS) (sym parts.0) le;
      fits = subst (λ k. amount literal < 2 ^ k) (sym parts.0) parts.1;
    }

zeros_of_size : (n : ℕ) (literal : Word) → IsLiteral (bytes_of literal) → n ≤ WIRE_BITS → is_literal_of n 0 literal ≡ true → IsMeant literal
zeros_of_size n literal formed le is =
    let parts = literal_parts n 0 literal is in
    of_size n literal formed le (is_word n literal parts.0 (subst (λ k. k < 2 ^ n) (sym parts.1) parts.2))

-- WIRES

kind_meant : (n : ℕ) (k : Kind) → n ≤ WIRE_BITS → KindFormed k → AllTrue (kind_checks n k) → IsMeantKind k
kind_meant n kind.Input le formed all = tt
kind_meant n kind.Plain le formed all = tt
kind_meant n (kind.Register literal None) le formed all = of_size n literal formed le all.0
kind_meant n (kind.Register literal (Some memory)) le formed all = zeros_of_size n literal formed le all.0

kinds_meant : (ws : List Wire) → AllByRecursion WireHolds ws → AreMeantKinds ws
kinds_meant [] all = tt
kinds_meant (w ∷ ws) all = (kind_meant (width w.line.range) w.kind all.0.narrow all.0.formed all.0.checks.1, kinds_meant ws all.1)

narrow_wires : (ws : List Wire) → AllByRecursion WireHolds ws → AreNarrowWires ws
narrow_wires [] all = tt
narrow_wires (w ∷ ws) all = (all.0.narrow, narrow_wires ws all.1)

wide_small : (ws : List Wire) (n : ℕ) → AllByRecursion WireHolds ws → slice_index (widths_in ws) n ≤ WIRE_BITS
wide_small [] zero all = omega arith
wide_small [] (suc n) all = omega arith
wide_small (w ∷ ws) zero all = all.0.narrow
wide_small (w ∷ ws) (suc n) all = wide_small ws n all.1

-- DRIVERS

cut_below : (n most from to : ℕ) → n ≤ most → from < n → to ≤ from → (from < most) × (to < most)
cut_below n most from to le below down = (omega arith, omega arith)

cut_meant : (ws : List Wire) (n : ℕ) (a : Operand) (range : Range) → AllByRecursion WireHolds ws → AllTrue (cut_checks (widths_in ws) n a range) → IsCut range
cut_meant ws n a range holds all =
    let down = and_parts (leb (number range.to) (number range.from)) (eqb n (number range.from - number range.to + 1)) all.1.0 in
    cut_below (wide (widths_in ws) a) WIRE_BITS (number range.from) (number range.to) (wide_small ws a.wire.number holds)
    (ltb-true (number range.from) (wide (widths_in ws) a) all.0) (leb-true (number range.to) (number range.from) down.0)

assigned_meant : (er : List ResolvedModule) (m : ResolvedModule) (o : Option ℕ) (ws : List Wire) (name : Word) (r : Right) → AllByRecursion WireHolds m.wires → LiteralsIn r
    → AllTrue (driver_width_checks er m (assigned_at o ws name r)) → IsMeantDriver (assigned_at o ws name r)
assigned_meant er m None ws name (right.Constant literal) holds formed all =
    of_size (wide (widths_in m.wires) (operand ws name)) literal formed (wide_small m.wires (operand ws name).wire.number holds) all.0
assigned_meant er m None ws name (right.Copy a) holds formed all = tt
assigned_meant er m None ws name (right.Join parts) holds formed all = tt
assigned_meant er m None ws name (right.Cut a range) holds formed all = cut_meant m.wires (wide (widths_in m.wires) (operand ws name)) (operand ws a) range holds all
assigned_meant er m None ws name (right.Unary op at a) holds formed all = tt
assigned_meant er m None ws name (right.Binary op at a b) holds formed all = tt
assigned_meant er m None ws name (right.Choice c a b) holds formed all = tt
assigned_meant er m (Some k) ws name (right.Constant literal) holds formed all =
    of_size (wide (widths_in m.wires) (operand ws name)) literal formed (wide_small m.wires (operand ws name).wire.number holds) all.0
assigned_meant er m (Some k) ws name (right.Copy a) holds formed all = tt
assigned_meant er m (Some k) ws name (right.Join parts) holds formed all = tt
assigned_meant er m (Some k) ws name (right.Cut a range) holds formed all = cut_meant m.wires (wide (widths_in m.wires) (operand ws name)) (operand ws a) range holds all
assigned_meant er m (Some k) ws name (right.Unary op at a) holds formed all = tt
assigned_meant er m (Some k) ws name (right.Binary op at a b) holds formed all = tt
assigned_meant er m (Some k) ws name (right.Choice c a b) holds formed all = tt

words_meant : (n count place : ℕ) (words : List FirstWord) → n ≤ WIRE_BITS → AllByRecursion (λ (word : FirstWord). IsLiteral (bytes_of word.literal)) words
    → AllTrue (word_checks n count place words) → AreMeantWords words
words_meant n count place [] le formed all = tt
words_meant n count place (word ∷ words) le formed all =
    (of_size n word.literal formed.0 le all.1.1.0, words_meant n count (place + 1) words le formed.1 all.1.1.1)

-- a RAM whose register shows a memory
ram_meant : (ports : Ports) (ws full : List Wire) (ram : Ram) → Extends ws full → AllByRecursion WireHolds full
    → AllByRecursion (λ (word : FirstWord). IsLiteral (bytes_of word.literal)) (ram.first ∷ ram.others) → AllTrue (ram_checks ports ws ram)
    → AllTrue (ram_width_checks (widths_in full) (wide (widths_in full) (operand ws ram.register)) (memory_of (kind_at full (operand ws ram.register))) (ram_of ports ws ram))
    → AreMeantWords (ram.first ∷ ram.others)
ram_meant ports ws full ram extends holds formed names widths =
    let name : List ℕ = bytes_of ram.first.memory in
    let after : AllTrue (from_clock ports ws ram) = second_part (memory_checks ram.first.memory ram.others) (from_clock ports ws ram) names.1 in
    let after_write : AllTrue (from_value ws ram) = second_part (access_checks ws ram.first.memory ram.write) (from_value ws ram) after.1.1 in
    let shown = showing name (kind_of ws (bytes_of ram.register)) after_write.1.0 in
    let literal : Word = shown.0 in
    let memory : Memory = shown.1 in
    let k : Known ws ram.register = known_as ws ram.register (kind.Register literal (Some memory)) shown.2 in
    let k_is : k.kind ≡ kind.Register literal (Some memory) = kind_is ws ram.register k (kind.Register literal (Some memory)) shown.2 in
    let there : kind_at full (operand ws ram.register) ≡ Some (kind.Register literal (Some memory)) = kind_there ws full ram.register extends k ∙ ap Some k_is in
    let n : ℕ = wide (widths_in full) (operand ws ram.register) in
    let made_ram : RamOf = ram_of ports ws ram in
    let fits : AllTrue (words_checks (widths_in full) n (count_of memory) made_ram) = rw there at widths in
    words_meant n (count_of memory) 0 (ram.first ∷ ram.others) (wide_small full (operand ws ram.register).wire.number holds) formed
    (first_part (word_checks n (count_of memory) 0 (ram.first ∷ ram.others)) (from_end (widths_in full) n (count_of memory) made_ram) fits)

driver_meant : (ports : Ports) (earl : List Module) (er : List ResolvedModule) (m : ResolvedModule) (names : List (List ℕ)) (ws : List Wire) (it : Item)
    → Extends ws m.wires → AllByRecursion WireHolds m.wires → ItemFormed it → AllTrue (item_checks (place_in ports earl) names ws it)
    → AllTrue (flat_map (driver_width_checks er m) (driver_of (place_in ports earl) names ws it)) → AllByRecursion IsMeantDriver (driver_of (place_in ports earl) names ws it)
driver_meant ports earl er m names ws (item.Wire l) extends holds formed checks all = tt
driver_meant ports earl er m names ws (item.Register l literal memory) extends holds formed checks all = tt
driver_meant ports earl er m names ws (item.Assign name r) extends holds formed checks all =
    let o : Option ℕ = place_of names (bytes_of name) in
    (assigned_meant er m o ws name r holds formed (first_part (driver_width_checks er m (assigned_at o ws name r)) [] all), tt)
driver_meant ports earl er m names ws (item.Edge edge) extends holds formed checks all = (tt, tt)
driver_meant ports earl er m names ws (item.Ram ram) extends holds formed checks all = (
  ram_meant ports ws m.wires ram extends holds formed.words checks
      (first_part (ram_width_checks (widths_in m.wires) (wide (widths_in m.wires) (operand ws ram.register)) (memory_of (kind_at m.wires (operand ws ram.register))) (ram_of ports ws ram)) [] all),
  tt,
)
driver_meant ports earl er m names ws (item.Use u) extends holds formed checks all = (tt, tt)

drivers_meant : (ports : Ports) (earl : List Module) (er : List ResolvedModule) (m : ResolvedModule) (names : List (List ℕ)) (ws : List Wire) (items : List Item)
    → m.wires ≡ ws ++ flat_map wires_by items → AllByRecursion WireHolds m.wires → AllByRecursion ItemFormed items
    → AllTrue (items_checks (place_in ports earl) names ws items)
    → AllTrue (flat_map (driver_width_checks er m) (drivers_of (place_in ports earl) names ws items))
    → AllByRecursion IsMeantDriver (drivers_of (place_in ports earl) names ws items)
drivers_meant ports earl er m names ws [] full holds formed checks widths = tt
drivers_meant ports earl er m names ws (it ∷ items) full holds formed checks widths =
    let p : Place = place_in ports earl in
    let here : List Driver = driver_of p names ws it in
    let later : List Driver = drivers_of p names (ws ++ wires_by it) items in
    let split : flat_map (driver_width_checks er m) (here ++ later) ≡ flat_map (driver_width_checks er m) here ++ flat_map (driver_width_checks er m) later =
    flat_map-append (driver_width_checks er m) here later in
    let all : AllTrue (flat_map (driver_width_checks er m) here ++ flat_map (driver_width_checks er m) later) = subst AllTrue split widths in
    let more : m.wires ≡ (ws ++ wires_by it) ++ flat_map wires_by items = full ∙ sym (append_assoc ws (wires_by it) (flat_map wires_by items)) in
    all_both IsMeantDriver here later
    (driver_meant ports earl er m names ws it (extends_by ws (wires_by it ++ flat_map wires_by items) m.wires full) holds formed.0
    (first_part (item_checks p names ws it) (items_checks p names (ws ++ wires_by it) items) checks)
    (first_part (flat_map (driver_width_checks er m) here) (flat_map (driver_width_checks er m) later) all))
    (drivers_meant ports earl er m names (ws ++ wires_by it) items more holds formed.1
    (second_part (item_checks p names ws it) (items_checks p names (ws ++ wires_by it) items) checks)
    (second_part (flat_map (driver_width_checks er m) here) (flat_map (driver_width_checks er m) later) all))

-- MODULES

module_meant : (ports : Ports) (earl : List Module) (er : List ResolvedModule) (mt : Module) → ModuleChecked ports earl er mt → IsMeantModule (made ports earl mt)
module_meant ports earl er mt c =
    let holds : AllByRecursion WireHolds (wires_of mt) = wires_hold mt c.formed c.port_limits_hold c.item_limits_hold c.wires in
    record {
      narrow = narrow_wires (wires_of mt) holds;
      kinds = kinds_meant (wires_of mt) holds;
      drivers = drivers_meant ports earl er (made ports earl mt) (map line_name (outputs_of (ports_in mt))) (input_wires mt) mt.items refl holds c.formed c.items c.widths;
    }

pub modules_meant : (ports : Ports) (earl : List Module) (er : List ResolvedModule) (ms : List Module) → AllChecked ports earl er ms → AreMeant (resolved_modules ports earl ms)
modules_meant ports earl er [] all = tt
modules_meant ports earl er (mt ∷ ms) all = (
  module_meant ports earl er mt all.0,
  modules_meant ports (earl ++ mt ∷ []) (er ++ made ports earl mt ∷ []) ms all.2,
)
