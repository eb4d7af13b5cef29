-- Modules that stand in a text that denotes a net pass their checks: their items.
use Rattle.std.proofs.Common.{◌≡◌, ℕ, zero, suc, ◌+◌, ◌≤◌, Bool, true, false, cond, List, [], ◌∷◌, ◌++◌, map, Option, Some, None, refl, sym, ap, ◌∙◌, subst, append_assoc, arith}
use Rattle.std.specs.Prelude.{is_some, slice_index, option_map}
use Rattle.std.specs.List.{AllByRecursion, flat_map}
use Rattle.std.specs.Str.{bytes_eq}
use Rattle.std.proofs.lemmas.Bool.{false≢true, le-leb}
use Rattle.std.proofs.lemmas.List.Concat.{flat_map-append}
use Rattle.chw_base.specs.declared.limits.TheConstants.{WIRE_BITS}
use Rattle.chw_clock.specs.declared.event.Ports.{Ports}
use Rattle.name_tables.specs.Names.{place_of}
use Rattle.verilog_text.specs.Declared.{Declared}
use Rattle.verilog_text.specs.Denotes.{ItemsAre, Part}
use Rattle.verilog_tree.specs.Sources.{bytes_of, item_of}
use Rattle.verilog_tree.specs.declared.item.FirstWord.{FirstWord}
use Rattle.verilog_tree.specs.declared.item.Item.{Item}
use Rattle.verilog_tree.specs.declared.item.Item.TheVariants as item
use Rattle.verilog_tree.specs.declared.item.Reset.{Reset}
use Rattle.verilog_tree.specs.declared.module.Module.{Module}
use Rattle.verilog_tree.specs.declared.right.Right.{Right}
use Rattle.verilog_tree.specs.declared.right.Right.TheVariants as right
use Rattle.verilog_tree.specs.declared.word.Word.{Word}
use Rattle.verilog_rules.specs.Checks.{check}
use Rattle.verilog_rules.specs.Declarations.{ports_in, wire_name, wires_by}
use Rattle.verilog_rules.specs.DriverRules.{drives}
use Rattle.verilog_rules.specs.Limits.{item_limits, literal_limit, reset_limits, right_limits, word_limit}
use Rattle.verilog_rules.specs.NameRules.{Place, access_checks, item_checks, items_checks, kind_of, memory_checks}
use Rattle.verilog_rules.specs.NetOf.{net_module}
use Rattle.verilog_rules.specs.Resolving.{assigned_at, driver_of, drivers_of, edge_driver, operand, ram_of, value_of}
use Rattle.verilog_rules.specs.Texts.{amount, is_literal_of, is_word_of, size}
use Rattle.verilog_rules.specs.WidthRules.{address_checks, count_of, driver_width_checks, kind_at, memory_of, ram_width_checks, register_checks, reset_literal_checks, value_checks, wide, width_check, wire_widths, word_checks, words_checks}
use Rattle.verilog_rules.specs.declared.resolved.Driver.{Driver}
use Rattle.verilog_rules.specs.declared.resolved.Driver.TheVariants as driver
use Rattle.verilog_rules.specs.declared.resolved.Kind.{Kind}
use Rattle.verilog_rules.specs.declared.resolved.Kind.TheVariants as kind
use Rattle.verilog_rules.specs.declared.resolved.RamOf.{RamOf}
use Rattle.verilog_rules.specs.declared.resolved.ResolvedModule.{ResolvedModule}
use Rattle.verilog_rules.specs.declared.resolved.Wire.{Wire}
use Rattle.verilog_rules.proofs.Connections.{Ordered}
use Rattle.verilog_rules.proofs.Holding.{AllTrue, all_ones, both_parts, first_part, second_part}
use Rattle.verilog_rules.proofs.Items.{output_names, place_in, scene_in}
use Rattle.verilog_rules.proofs.Literals.{literal_parts, word_parts}
use Rattle.verilog_rules.proofs.Operands.{Known, kind_is, known_as, said}
use Rattle.verilog_rules.proofs.Parts.{all_both, extends_by, parts_in, said_more}
use Rattle.verilog_rules.proofs.Rams.{from_clock, from_end, from_value, from_written}
use Rattle.verilog_rules.proofs.Used.{EarlierFit}
use Rattle.verilog_rules.proofs.WasItems.{DrivenFits, ItemWas, NoOutput, PartAgrees, item_was}
use Rattle.verilog_rules.proofs.Wires.{Extends, kind_there, plain_register, showing}

-- items that stand in a text
pub record ItemsWere (ports : Ports) (earl : List Module) (er : List ResolvedModule) (m : ResolvedModule) (ws : List Wire) (items : List Item) (parts : List Part) : Type 0 where
  pub names : AllTrue (items_checks (place_in ports earl) (output_names m) ws items)
  pub parts_are : parts ≡ parts_in m (place_in ports earl) ws items
  pub widths : AllByRecursion (PartAgrees (map net_module er) (wire_widths m)) parts
      → AllTrue (flat_map (driver_width_checks er m) (drivers_of (place_in ports earl) (output_names m) ws items))
  pub driven : AllByRecursion (PartAgrees (map net_module er) (wire_widths m)) parts
      → AllByRecursion (DrivenFits m) (flat_map drives (drivers_of (place_in ports earl) (output_names m) ws items))

kind_more : (ws more : List Wire) (name : List ℕ) → is_some (kind_of ws name) ≡ true → is_some (kind_of (ws ++ more) name) ≡ true
kind_more [] more name is = absurd (false≢true is)
kind_more (w ∷ ws) more name is = by_case (bytes_eq name (wire_name w)) is (kind_more ws more name)
  where
    by_case : (b : Bool) → is_some (cond b (Some w.kind) (kind_of ws name)) ≡ true → (is_some (kind_of ws name) ≡ true → is_some (kind_of (ws ++ more) name) ≡ true)
        → is_some (cond b (Some w.kind) (kind_of (ws ++ more) name)) ≡ true
    by_case true so later = refl
    by_case false so later = later so

pub items_were : (ports : Ports) (earl : List Module) (er : List ResolvedModule) (m : ResolvedModule) (ws : List Wire) (items : List Item) (parts : List Part)
    → AllByRecursion (λ (n : Module). Ordered 0 (ports_in n)) earl → EarlierFit earl er → m.wires ≡ ws ++ flat_map wires_by items → NoOutput m m.wires
    → ItemsAre (scene_in ports earl m) (map said ws) (map item_of items) parts → ItemsWere ports earl er m ws items parts
items_were ports earl er m ws [] [] ordered fits full none are = record { names = tt; parts_are = refl; widths = λ agrees. tt; driven = λ agrees. tt }
items_were ports earl er m ws [] (part ∷ parts) ordered fits full none are = absurd are
items_were ports earl er m ws (it ∷ items) [] ordered fits full none are = absurd are
items_were ports earl er m ws (it ∷ items) (part ∷ parts) ordered fits full none are =
    let p : Place = place_in ports earl in
    let more : m.wires ≡ (ws ++ wires_by it) ++ flat_map wires_by items = full ∙ sym (append_assoc ws (wires_by it) (flat_map wires_by items)) in
    let here : List Driver = driver_of p (output_names m) ws it in
    let later : List Driver = drivers_of p (output_names m) (ws ++ wires_by it) items in
    let none_here : NoOutput m ws = λ name is. none name (subst (λ (f : List Wire). is_some (kind_of f name) ≡ true) (sym full) (kind_more ws (wires_by it ++ flat_map wires_by items) name is)) in
    let first : ItemWas ports earl er m ws it part = item_was ports earl er m ws it part ordered fits (extends_by ws (wires_by it ++ flat_map wires_by items) m.wires full) none_here are.0 in
    let rest : ItemsWere ports earl er m (ws ++ wires_by it) items parts =
    items_were ports earl er m (ws ++ wires_by it) items parts ordered fits more none
    (subst (λ (wires : List Declared). ItemsAre (scene_in ports earl m) wires (map item_of items) parts) (sym (said_more ws it)) are.1) in
    record {
      names = both_parts (item_checks p (output_names m) ws it) (items_checks p (output_names m) (ws ++ wires_by it) items) first.names rest.names;
      parts_are = longer first.part_is rest.parts_are;
      widths = λ agrees. subst AllTrue (sym (flat_map-append (driver_width_checks er m) here later))
          (both_parts (flat_map (driver_width_checks er m) here) (flat_map (driver_width_checks er m) later) (first.widths agrees.0) (rest.widths agrees.1));
      driven = λ agrees. subst (AllByRecursion (DrivenFits m)) (sym (flat_map-append drives here later))
          (all_both (DrivenFits m) (flat_map drives here) (flat_map drives later) (first.driven agrees.0) (rest.driven agrees.1));
    }
  where
    longer : {p q : Part} {ps qs : List Part} → p ≡ q → ps ≡ qs → p ∷ ps ≡ q ∷ qs
    longer e f = λ i. e i ∷ f i

-- LIMITS OF LITERALS

-- each width is one that a wire may have
abbrev pub Narrow : List ℕ → Type 0
Narrow widths = AllByRecursion (λ (n : ℕ). n ≤ WIRE_BITS) widths

pub narrow_at : (widths : List ℕ) (n : ℕ) → Narrow widths → slice_index widths n ≤ WIRE_BITS
narrow_at [] n all = omega arith
narrow_at (w ∷ widths) zero all = all.0
narrow_at (w ∷ widths) (suc n) all = narrow_at widths n all.1

size_limit : (n : ℕ) (literal : Word) → n ≤ WIRE_BITS → size literal ≡ n → (literal_limit literal).holds ≡ true
size_limit n literal narrow is = le-leb (size literal) WIRE_BITS (rw is narrow)

pub word_limited : (n : ℕ) (literal : Word) → n ≤ WIRE_BITS → is_word_of n literal ≡ true → (literal_limit literal).holds ≡ true
word_limited n literal narrow is = size_limit n literal narrow (word_parts n literal is).0

pub literal_limited : (n k : ℕ) (literal : Word) → n ≤ WIRE_BITS → is_literal_of n k literal ≡ true → (literal_limit literal).holds ≡ true
literal_limited n k literal narrow is = size_limit n literal narrow (literal_parts n k literal is).0

right_limited : (widths : List ℕ) (n : ℕ) (ws : List Wire) (r : Right) → n ≤ WIRE_BITS → AllTrue (value_checks widths n (value_of ws r)) → AllTrue (right_limits r)
right_limited widths n ws (right.Constant literal) narrow all = (word_limited n literal narrow all.0, tt)
right_limited widths n ws (right.Copy a) narrow all = tt
right_limited widths n ws (right.Join parts) narrow all = tt
right_limited widths n ws (right.Cut a range) narrow all = tt
right_limited widths n ws (right.Unary op sign a) narrow all = tt
right_limited widths n ws (right.Binary op sign a b) narrow all = tt
right_limited widths n ws (right.Choice c a b) narrow all = tt

assign_limited : (er : List ResolvedModule) (m : ResolvedModule) (ws : List Wire) (name : Word) (r : Right) (o : Option ℕ) → Narrow (wire_widths m)
    → AllTrue (driver_width_checks er m (assigned_at o ws name r)) → AllTrue (right_limits r)
assign_limited er m ws name r None narrow all = right_limited (wire_widths m) (wide (wire_widths m) (operand ws name)) ws r (narrow_at (wire_widths m) (operand ws name).wire.number narrow) all
assign_limited er m ws name (right.Copy a) (Some k) narrow all = tt
assign_limited er m ws name (right.Constant literal) (Some k) narrow all =
    right_limited (wire_widths m) (wide (wire_widths m) (operand ws name)) ws (right.Constant literal) (narrow_at (wire_widths m) (operand ws name).wire.number narrow) all
assign_limited er m ws name (right.Join parts) (Some k) narrow all = tt
assign_limited er m ws name (right.Cut a range) (Some k) narrow all = tt
assign_limited er m ws name (right.Unary op sign a) (Some k) narrow all = tt
assign_limited er m ws name (right.Binary op sign a b) (Some k) narrow all = tt
assign_limited er m ws name (right.Choice c a b) (Some k) narrow all = tt

reset_limited : (n : ℕ) (first : Word) (reset : Option Reset) → n ≤ WIRE_BITS → AllTrue (reset_literal_checks n (Some first) (option_map (λ (r : Reset). r.literal) reset)) → AllTrue (reset_limits reset)
reset_limited n first None narrow all = tt
reset_limited n first (Some reset) narrow all = (literal_limited n (amount first) reset.literal narrow all.0, tt)

words_limited : (n count place : ℕ) (words : List FirstWord) → n ≤ WIRE_BITS → AllTrue (word_checks n count place words) → AllByRecursion (λ (word : FirstWord). (word_limit word).holds ≡ true) words
words_limited n count place [] narrow all = tt
words_limited n count place (word ∷ words) narrow all = (word_limited n word.literal narrow all.1.1.0, words_limited n count (place + 1) words narrow all.1.1.1)

-- the literals of an item that drives something are within the limits
pub driver_limited : (ports : Ports) (earl : List Module) (er : List ResolvedModule) (m : ResolvedModule) (ws : List Wire) (it : Item) → Extends ws m.wires → Narrow (wire_widths m)
    → AllTrue (item_checks (place_in ports earl) (output_names m) ws it)
    → AllTrue (flat_map (driver_width_checks er m) (driver_of (place_in ports earl) (output_names m) ws it))
    → ((d : Driver) → driver_of (place_in ports earl) (output_names m) ws it ≡ d ∷ [] → AllTrue (item_limits it))
driver_limited ports earl er m ws (item.Wire l) extends narrow names widths d is = absurd (cc)
driver_limited ports earl er m ws (item.Register l literal memory) extends narrow names widths d is = absurd (cc)
driver_limited ports earl er m ws (item.Use u) extends narrow names widths d is = tt
driver_limited ports earl er m ws (item.Assign name r) extends narrow names widths d is =
    let mine : Driver = assigned_at (place_of (output_names m) (bytes_of name)) ws name r in
    assign_limited er m ws name r (place_of (output_names m) (bytes_of name)) narrow (first_part (driver_width_checks er m mine) [] widths)
driver_limited ports earl er m ws (item.Edge edge) extends narrow names widths d is =
    let plain = plain_register (kind_of ws (bytes_of edge.register)) names.1.0 in
    let k : Known ws edge.register = known_as ws edge.register (kind.Register plain.0 None) plain.1 in
    let there : kind_at m.wires (operand ws edge.register) ≡ Some (kind.Register plain.0 None) =
    kind_there ws m.wires edge.register extends k ∙ ap Some (kind_is ws edge.register k (kind.Register plain.0 None) plain.1) in
    let n : ℕ = wide (wire_widths m) (operand ws edge.register) in
    let mine = first_part (driver_width_checks er m (edge_driver ports ws edge)) [] widths in
    let so : AllTrue (register_checks (wire_widths m) n (Some (kind.Register plain.0 None)) (option_map (λ (r : Reset). r.literal) edge.reset) (operand ws edge.a)) =
    subst (λ (o : Option Kind). AllTrue (register_checks (wire_widths m) n o (option_map (λ (r : Reset). r.literal) edge.reset) (operand ws edge.a))) there mine in
    reset_limited n plain.0 edge.reset (narrow_at (wire_widths m) (operand ws edge.register).wire.number narrow)
    (first_part (reset_literal_checks n (Some plain.0) (option_map (λ (r : Reset). r.literal) edge.reset)) (width_check (wire_widths m) n (operand ws edge.a) ∷ []) so)
driver_limited ports earl er m ws (item.Ram ram) extends narrow names widths d is =
    let after : AllTrue (from_clock ports ws ram) = second_part (memory_checks ram.first.memory ram.others) (from_clock ports ws ram) names.1 in
    let after_write : AllTrue (from_value ws ram) = second_part (access_checks ws ram.first.memory ram.write) (from_value ws ram) after.1.1 in
    let shown = showing (bytes_of ram.first.memory) (kind_of ws (bytes_of ram.register)) after_write.1.0 in
    let its_kind : Kind = kind.Register shown.0 (Some shown.1) in
    let k : Known ws ram.register = known_as ws ram.register its_kind shown.2 in
    let there : kind_at m.wires (operand ws ram.register) ≡ Some its_kind = kind_there ws m.wires ram.register extends k ∙ ap Some (kind_is ws ram.register k its_kind shown.2) in
    let made : RamOf = ram_of ports ws ram in
    let n : ℕ = wide (wire_widths m) (operand ws ram.register) in
    let n_narrow : n ≤ WIRE_BITS = narrow_at (wire_widths m) (operand ws ram.register).wire.number narrow in
    let count : ℕ = count_of shown.1 in
    let mine = first_part (driver_width_checks er m (driver.Ram made)) [] widths in
    let so : AllTrue (words_checks (wire_widths m) n count made) = subst (λ (o : Option Kind). AllTrue (ram_width_checks (wire_widths m) n (memory_of o) made)) there mine in
    let all : List FirstWord = ram.first ∷ ram.others in
    let word_fits : AllTrue (word_checks n count 0 all) = first_part (word_checks n count 0 all) (from_end (wire_widths m) n count made) so in
    let after_words : AllTrue (from_end (wire_widths m) n count made) = second_part (word_checks n count 0 all) (from_end (wire_widths m) n count made) so in
    let write_fits : AllTrue (address_checks (wire_widths m) count made.write) = first_part (address_checks (wire_widths m) count made.write) (from_written (wire_widths m) n count made) after_words.1.1 in
    let after_fits : AllTrue (from_written (wire_widths m) n count made) = second_part (address_checks (wire_widths m) count made.write) (from_written (wire_widths m) n count made) after_words.1.1 in
    let read_fits : AllTrue (address_checks (wire_widths m) count made.read) =
    first_part (address_checks (wire_widths m) count made.read) (check ram.zeros.at (is_literal_of n 0 ram.zeros) ∷ []) after_fits.1 in
    let zeros_fit : AllTrue (check ram.zeros.at (is_literal_of n 0 ram.zeros) ∷ []) =
    second_part (address_checks (wire_widths m) count made.read) (check ram.zeros.at (is_literal_of n 0 ram.zeros) ∷ []) after_fits.1 in
    both_parts (map word_limit all) (literal_limit ram.write.count ∷ literal_limit ram.read.count ∷ literal_limit ram.zeros ∷ [])
    (all_ones word_limit all (words_limited n count 0 all n_narrow word_fits)) (
      literal_limited 12 count ram.write.count (twelve WIRE_BITS refl) write_fits.1.0,
      (
        literal_limited 12 count ram.read.count (twelve WIRE_BITS refl) read_fits.1.0,
        (literal_limited n 0 ram.zeros n_narrow zeros_fit.0, tt),
      ),
    )
  where
    twelve : (n : ℕ) → n ≡ 4096 → 12 ≤ n
    twelve n is = omega arith
