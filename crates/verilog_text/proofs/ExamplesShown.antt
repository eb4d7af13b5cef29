-- The examples hold: the texts split by computation, and what they declare and mean is found in them.
use Rattle.name_tables.specs.Names.{place_of}
use Rattle.chw_clock.specs.declared.event.Ports.{Ports}
use Rattle.std.proofs.Common.{◌≡◌, ℕ, zero, suc, ◌<◌, ◌≤◌, List, [], ◌∷◌, ◌++◌, Option, Some, None, sym, refl, ap, ◌∙◌, subst, arith, map}
use Rattle.std.specs.Prelude.{codes, slice_get, option_map}
use Rattle.std.proofs.lemmas.Option.{same_Some}
use Rattle.chw_base.specs.declared.index.WireId.{WireId}
use Rattle.chw_bits.specs.Bits.{bits_of}
use Rattle.chw_clock.specs.declared.event.Port.{Port}
use Rattle.net_rules.specs.PortsHold.{PortsHold}
use Rattle.net_rules.specs.WellFormed.{DriversHold, EachRuleHolds, Holds, LimitsHold, NamesHold, WellFormed, WidthsHold, wire_driven_at}
use Rattle.net_rules.specs.declared.well_formed.NetCode.{NetCode}
use Rattle.net_rules.specs.declared.well_formed.NetCode.TheVariants.{Driver, Limit, Name, Width}
use Rattle.netlist.specs.declared.net.Cell.TheVariants.{Bin, Reg}
use Rattle.netlist.specs.declared.net.Module.{Module}
use Rattle.netlist.specs.declared.net.Op2.TheVariants.{Add}
use Rattle.verilog_text.specs.Declared.{Declared, MeansBits, declared_by, width_of}
use Rattle.verilog_text.specs.Declared.Kind.{a_register, a_wire, an_input}
use Rattle.verilog_text.specs.Denotes.{DenoteModules, Denotes, DenotesModule, ItemIs, ItemsAre, Part, Scene, assigned_to}
use Rattle.verilog_text.specs.Denotes.ItemIs.{assigns, declares, keeps, moves, shows}
use Rattle.verilog_text.specs.Denotes.Part.{a_cell, an_output, declaration}
use Rattle.verilog_text.specs.Denotes.RightIs.{is_binary}
use Rattle.verilog_text.specs.Examples.{DenotesNone, FreeText, assigned_register, dom, free_text, narrow_output, port, range_to_one, sums, unknown_name, wire}
use Rattle.verilog_text.specs.Grammar.{IsSource, source_tokens}
use Rattle.verilog_text.specs.Source.{Edge, Line, ModuleItem, Source, Item}
use Rattle.verilog_text.specs.Source.Item.{assign_item, edge_item, register_item, wire_item}
use Rattle.verilog_text.specs.Source.PortItem.{input_port, output_port, signal_port}
use Rattle.verilog_text.specs.Source.Right.{binary, copy}
use Rattle.verilog_text.specs.VForms.Sort.{keyword, name, number}
use Rattle.verilog_text.specs.VTokens.{Placed}
use Rattle.verilog_text.proofs.Chunks.{Reads}
use Rattle.verilog_text.proofs.OneSource.{one_source}
use Rattle.verilog_text.proofs.Scanned.{Scanned, mark, note, plain, reads_line, scanned_reads, sized, space}
use Rattle.verilog_text.proofs.Uniqueness.{one_splitting}

abbrev range_pieces : List ℕ → List ℕ → List Scanned
range_pieces from to = mark (codes "[") ∷ plain number from ∷ mark (codes ":") ∷ plain number to ∷ mark (codes "]") ∷ []

abbrev semicolon : Scanned
semicolon = mark (codes ";")

-- the pieces of a text of the examples
abbrev pieces : List ℕ → List ℕ → List Scanned → List Scanned
pieces output sum last =
    note (codes " a ") ∷ plain keyword (codes "module") ∷ space 32 ∷ plain name (codes "chw_top") ∷ mark (codes "(")
    ∷ plain keyword (codes "input") ∷ space 32 ∷ plain name (codes "clk_A") ∷ mark (codes ",")
    ∷ plain keyword (codes "input") ∷ (range_pieces (codes "007") (codes "0") ++ plain name (codes "i_A_x") ∷ mark (codes ",")
    ∷ plain keyword (codes "output") ∷ (range_pieces output (codes "0") ++ plain name (codes "o_A_y") ∷ mark (codes ")") ∷ semicolon
    ∷ plain keyword (codes "wire") ∷ (range_pieces (codes "7") sum ++ plain name (codes "sum") ∷ semicolon
    ∷ plain keyword (codes "reg") ∷ (range_pieces (codes "7") (codes "0") ++ plain name (codes "kept") ∷ mark (codes "=") ∷ space 32 ∷ sized (codes "08") (codes "A") ∷ semicolon
    ∷ plain keyword (codes "assign") ∷ space 32 ∷ plain name (codes "o_A_y") ∷ mark (codes "=") ∷ space 32 ∷ plain name (codes "kept") ∷ semicolon
    ∷ plain keyword (codes "always") ∷ mark (codes "@") ∷ mark (codes "(") ∷ plain keyword (codes "posedge") ∷ space 32 ∷ plain name (codes "clk_A") ∷ mark (codes ")")
    ∷ plain name (codes "kept") ∷ mark (codes "<=") ∷ space 32 ∷ plain name (codes "sum") ∷ semicolon
    ∷ plain keyword (codes "assign") ∷ space 32 ∷ (last ++ semicolon ∷ plain keyword (codes "endmodule") ∷ [])))))

abbrev sum_pieces : List ℕ → List Scanned
sum_pieces operand = plain name (codes "sum") ∷ mark (codes "=") ∷ space 32 ∷ plain name (codes "kept") ∷ mark (codes "+") ∷ plain name operand ∷ []

abbrev kept_pieces : List Scanned
kept_pieces = plain name (codes "kept") ∷ mark (codes "=") ∷ space 32 ∷ plain name (codes "sum") ∷ []

abbrev line : List ℕ → List ℕ → List ℕ → Line
line from to named = record { range = record { from = from; to = to }; name = named }

abbrev input_line : Line
input_line = line (codes "007") (codes "0") (codes "i_A_x")

abbrev output_to : List ℕ → Line
output_to from = line from (codes "0") (codes "o_A_y")

abbrev output_line : Line
output_line = output_to (codes "7")

abbrev sum_to : List ℕ → Line
sum_to to = line (codes "7") to (codes "sum")

abbrev sum_line : Line
sum_line = sum_to (codes "00")

abbrev kept_line : Line
kept_line = line (codes "7") (codes "0") (codes "kept")

abbrev the_edge : Edge
the_edge = record { clock = codes "clk_A"; register = codes "kept"; reset = None; a = codes "sum" }

abbrev module_with : List ℕ → List ℕ → Item → ModuleItem
module_with output sum last = record {
  name = codes "chw_top";
  ports = record { first = signal_port (codes "clk_A"); others = input_port input_line ∷ output_port (output_to output) ∷ [] };
  items = wire_item (sum_to sum) ∷ register_item kept_line (codes "08'hA") None ∷ assign_item (codes "o_A_y") (copy (codes "kept")) ∷ edge_item the_edge ∷ last ∷ [];
}

abbrev sum_item : List ℕ → Item
sum_item operand = assign_item (codes "sum") (binary Add (codes "kept") operand)

abbrev the_module : ModuleItem
the_module = module_with (codes "7") (codes "00") (sum_item (codes "i_A_x"))

abbrev source_of : ModuleItem → Source
source_of m = record { earlier = []; last = m }

last_comment : Reads (codes "// b") []
last_comment = reads_line (codes " b") (refl, (refl, tt))

free_reads : Reads free_text (source_tokens (source_of the_module))
free_reads = scanned_reads (pieces (codes "7") (codes "00") (sum_pieces (codes "i_A_x"))) (codes "// b") [] refl last_comment

ten : MeansBits (codes "08'hA") (bits_of 8 10)
ten = record {
  size_digits = codes "08";
  digits = codes "A";
  parts = record { size_is = (refl, (refl, tt)); digits_are = (refl, tt); bytes_are = refl };
  size_is = refl;
  number_is = refl;
  fits = omega arith;
}

abbrev the_parts : List Part
the_parts =
    declaration ∷ declaration ∷ an_output 0 (wire 2) ∷ a_cell (Reg (wire 2) (dom 0) (bits_of 8 10) (wire 1)) ∷ a_cell (Bin (wire 1) Add (wire 2) (wire 0)) ∷ []

abbrev the_scene : Scene
the_scene = record { ports = sums.ports; outputs = output_line ∷ []; earlier = [] }

abbrev declared_input_wire : Declared
declared_input_wire = record { line = input_line; kind = an_input }

abbrev all_wires : List Declared
all_wires = declared_input_wire ∷ record { line = sum_line; kind = a_wire } ∷ record { line = kept_line; kind = a_register (codes "08'hA") None } ∷ []

the_items : ItemsAre the_scene (declared_input_wire ∷ []) the_module.items the_parts
the_items = (
  declares sum_line,
  (
    keeps kept_line (codes "08'hA") None,
    (
      shows (codes "o_A_y") (codes "kept") 0 output_line (wire 2) refl refl refl refl,
      (
        moves the_edge (wire 2) (dom 0) (bits_of 8 10) (wire 1) (record { register = refl; literal = codes "08'hA"; declared = refl; initial_bits = ten; clock = refl; reset = refl; taken = refl }),
        (
          assigns (codes "sum") (binary Add (codes "kept") (codes "i_A_x")) (wire 1) (Bin (wire 1) Add (wire 2) (wire 0)) refl refl
              (is_binary Add (codes "kept") (codes "i_A_x") (wire 2) (wire 0) refl refl),
          tt,
        ),
      ),
    ),
  ),
)

one_assigned : (k : ℕ) (a : WireId) → slice_get (wire 2 ∷ []) k ≡ Some a → assigned_to k the_parts ≡ a ∷ []
one_assigned zero a found = ap (λ (x : WireId). x ∷ []) (same_Some (wire 2) a found)
one_assigned (suc k) a found = absurd (cc)

abbrev sums_module : Module
sums_module = record {
  inputs = 1;
  widths = 8 ∷ 8 ∷ 8 ∷ [];
  outputs = wire 2 ∷ [];
  cells = Reg (wire 2) (dom 0) (bits_of 8 10) (wire 1) ∷ Bin (wire 1) Add (wire 2) (wire 0) ∷ [];
}

module_denotes : DenotesModule sums.ports [] the_module sums_module
module_denotes = record {
  order = refl;
  signals = refl;
  names = (refl, (refl, (refl, (refl, (refl, tt)))));
  ranges = (refl, (refl, (refl, (refl, tt))));
  parts = the_parts;
  items = the_items;
  inputs = refl;
  widths = refl;
  cells = refl;
  outputs = refl;
  assigned = one_assigned;
}

denotes : Denotes (source_of the_module) sums
denotes = record {
  last = refl;
  names = (refl, tt);
  inputs = record { names = refl; widths = refl };
  outputs = record { names = refl; widths = refl };
  modules = (module_denotes, tt);
}

rules_on_ports : PortsHold sums.ports
rules_on_ports = record {
  domains = record { some = omega arith; names = ((refl, tt), tt); differ = (refl, tt); rise = tt };
  inputs = (((omega arith, (refl, tt)), tt), (refl, tt));
  outputs = (((omega arith, (refl, tt)), tt), (refl, tt));
}

names_hold : NamesHold sums 0 sums_module
names_hold = record {
  cells = (record { driven = (omega arith, tt); read = (omega arith, tt); part = omega arith }, (record { driven = (omega arith, tt); read = (omega arith, (omega arith, tt)); part = tt }, tt));
  outputs = (omega arith, tt);
  top = λ last. record { rules = rules_on_ports; inputs = refl; outputs = refl };
}

widths_hold : WidthsHold sums 0 sums_module
widths_hold = record {
  cells = ((refl, refl), ((8, omega arith, refl, refl, refl), tt));
  top = λ last. record { inputs = inputs; outputs = outputs };
}
  where
    inputs : (k : ℕ) (p : Port) (width : ℕ) → slice_get (port (codes "x") ∷ []) k ≡ Some p → slice_get (8 ∷ 8 ∷ 8 ∷ []) k ≡ Some width → p.width ≡ width
    inputs zero p width first second = ap (λ (q : Port). q.width) (sym (same_Some (port (codes "x")) p first)) ∙ same_Some 8 width second
    inputs (suc k) p width first second = absurd (cc)

    outputs : (k : ℕ) (p : Port) (w : WireId) → slice_get (port (codes "y") ∷ []) k ≡ Some p → slice_get (wire 2 ∷ []) k ≡ Some w → slice_get (8 ∷ 8 ∷ 8 ∷ []) w.number ≡ Some p.width
    outputs zero p w first second =
        ap (λ (v : WireId). slice_get (8 ∷ 8 ∷ 8 ∷ []) v.number) (sym (same_Some (wire 2) w second)) ∙ ap (λ (q : Port). Some q.width) (same_Some (port (codes "y")) p first)
    outputs (suc k) p w first second = absurd (cc)

abbrev driven_here : ℕ → Option ℕ
driven_here place = wire_driven_at (wire 2 ∷ wire 1 ∷ []) place

drivers_hold : DriversHold sums 0 sums_module
drivers_hold = record {
  inputs = omega arith;
  drivers = record { free = free; driven = driven; once = once };
  outputs = λ later. absurd (omega (arith, later));
}
  where
    free : (place w : ℕ) → driven_here place ≡ Some w → 1 ≤ w
    free zero w is = omega (arith, same_Some 2 w is)
    free (suc zero) w is = omega (arith, same_Some 1 w is)
    free (suc (suc place)) w is = absurd (cc)

    driven : (w : ℕ) → 1 ≤ w → w < 3 → (place : ℕ) × (driven_here place ≡ Some w)
    driven zero from to = absurd (omega arith)
    driven (suc zero) from to = (1, refl)
    driven (suc (suc zero)) from to = (0, refl)
    driven (suc (suc (suc w))) from to = absurd (omega arith)

    once : (p q w : ℕ) → driven_here p ≡ Some w → driven_here q ≡ Some w → p ≡ q
    once zero zero w first second = refl
    once zero (suc zero) w first second = absurd (omega (arith, same_Some 2 w first, same_Some 1 w second))
    once zero (suc (suc q)) w first second = absurd (cc)
    once (suc zero) zero w first second = absurd (omega (arith, same_Some 1 w first, same_Some 2 w second))
    once (suc zero) (suc zero) w first second = refl
    once (suc zero) (suc (suc q)) w first second = absurd (cc)
    once (suc (suc p)) q w first second = absurd (cc)

limits_hold : LimitsHold sums 0 sums_module
limits_hold = record {
  widths = ((omega arith, omega arith), ((omega arith, omega arith), ((omega arith, omega arith), tt)));
  words = (tt, (tt, tt));
  modules = λ first. omega arith;
}

well_formed : WellFormed sums
well_formed = record { some = omega arith; rules = at }
  where
    each : (code : NetCode) → Holds sums 0 sums_module code
    each Name = names_hold
    each Width = widths_hold
    each Driver = drivers_hold
    each Limit = limits_hold

    at : (i : ℕ) (m : Module) → slice_get (sums_module ∷ []) i ≡ Some m → EachRuleHolds sums i m
    at zero m found = subst (EachRuleHolds sums 0) (same_Some sums_module m found) each
    at (suc i) m found = absurd (cc)

pub free_text_denotes : FreeText
free_text_denotes = record {
  tokens = free_reads.placed_at 0;
  source = source_of the_module;
  splits = free_reads.splits 0;
  reads = free_reads.tokens_are 0;
  denotes = denotes;
  well_formed = well_formed;
}

-- a text of one module that denotes none denotes no net
refused : (text : List ℕ) (m : ModuleItem) → Reads text (source_tokens (source_of m)) → ((ports : Ports) (made : Module) → DenotesModule ports [] m made → ⊥) → DenotesNone text
refused text m reads none net v =
    let tokens : v.tokens ≡ reads.placed_at 0 = one_splitting (reads.splits 0) v.splits refl refl in
    let is_source : IsSource (reads.placed_at 0) v.source = subst (λ (t : List Placed). IsSource t v.source) tokens v.reads in
    let source : v.source ≡ source_of m = one_source v.source (source_of m) (sym is_source ∙ reads.tokens_are 0) in
    at net.modules (subst (λ (s : Source). Denotes s net) source v.denotes).modules
  where
    at : (modules : List Module) → DenoteModules net.ports [] (m ∷ []) modules → ⊥
    at [] denote = denote
    at (made ∷ modules) denote = none net.ports made denote.0

-- the third and the last of five items
third : (scene : Scene) (wires : List Declared) (a b c d e : Item) (parts : List Part) → ItemsAre scene wires (a ∷ b ∷ c ∷ d ∷ e ∷ []) parts
    → (part : Part) × ItemIs scene ((wires ++ declared_by a) ++ declared_by b) c part
third scene wires a b c d e [] are = absurd are
third scene wires a b c d e (p ∷ []) are = absurd are.1
third scene wires a b c d e (p ∷ q ∷ []) are = absurd are.1.1
third scene wires a b c d e (p ∷ q ∷ r ∷ parts) are = (r, are.1.1.0)

last_of : (scene : Scene) (wires : List Declared) (a b c d e : Item) (parts : List Part) → ItemsAre scene wires (a ∷ b ∷ c ∷ d ∷ e ∷ []) parts
    → (part : Part) × ItemIs scene ((((wires ++ declared_by a) ++ declared_by b) ++ declared_by c) ++ declared_by d) e part
last_of scene wires a b c d e [] are = absurd are
last_of scene wires a b c d e (p ∷ []) are = absurd are.1
last_of scene wires a b c d e (p ∷ q ∷ []) are = absurd are.1.1
last_of scene wires a b c d e (p ∷ q ∷ r ∷ []) are = absurd are.1.1.1
last_of scene wires a b c d e (p ∷ q ∷ r ∷ s ∷ []) are = absurd are.1.1.1.1
last_of scene wires a b c d e (p ∷ q ∷ r ∷ s ∷ t ∷ parts) are = (t, are.1.1.1.1.0)

-- the last item names no wire
unknown_item : (scene : Scene) {part : Part} → ItemIs scene all_wires (sum_item (codes "i_A_z")) part → ⊥
unknown_item scene (assigns _ _ w cell named kind (is_binary _ _ _ a b left right)) = cc

pub unknown_name_refused : DenotesNone unknown_name
unknown_name_refused =
    refused unknown_name (module_with (codes "7") (codes "00") (sum_item (codes "i_A_z")))
    (scanned_reads (pieces (codes "7") (codes "00") (sum_pieces (codes "i_A_z"))) (codes "// b") [] refl last_comment)
    (λ ports made denote. unknown_item _ (last_of _ _ _ _ _ _ _ denote.parts denote.items).1)

-- the last item drives a register
register_item_refused : (outputs : List Line) (ports : Ports) {part : Part} → map (λ (l : Line). l.name) outputs ≡ codes "o_A_y" ∷ []
    → ItemIs (record { ports = ports; outputs = outputs; earlier = [] }) all_wires (assign_item (codes "kept") (copy (codes "sum"))) part → ⊥
register_item_refused outputs ports names (assigns _ _ w cell named kind right) =
    let place : w.number ≡ 2 = sym (same_Some 2 w.number named) in
    let kept : Some (a_register (codes "08'hA") None) ≡ Some a_wire = ap (λ (n : ℕ). option_map (λ (d : Declared). d.kind) (slice_get all_wires n)) (sym place) ∙ kind in
    cc
register_item_refused outputs ports names (shows _ _ k found a place is taken wide) =
    let none : None ≡ Some k = ap (λ (l : List (List ℕ)). place_of l (codes "kept")) (sym names) ∙ place in cc

pub assigned_register_refused : DenotesNone assigned_register
assigned_register_refused =
    refused assigned_register (module_with (codes "7") (codes "00") (assign_item (codes "kept") (copy (codes "sum"))))
    (scanned_reads (pieces (codes "7") (codes "00") kept_pieces) (codes "// b") [] refl last_comment)
    (λ ports made denote. register_item_refused (output_line ∷ []) ports refl (last_of _ _ _ _ _ _ _ denote.parts denote.items).1)

-- the output is narrower than the wire that is assigned to it
narrow_item_refused : (ports : Ports) {part : Part}
    → ItemIs (record { ports = ports; outputs = output_to (codes "6") ∷ []; earlier = [] }) all_wires (assign_item (codes "o_A_y") (copy (codes "kept"))) part → ⊥
narrow_item_refused ports (assigns _ _ w cell named kind right) = cc
narrow_item_refused ports (shows _ _ k found a place is taken wide) =
    let wire_place : a.number ≡ 2 = sym (same_Some 2 a.number taken) in
    let output_place : k ≡ 0 = sym (same_Some 0 k place) in
    let line_is : output_to (codes "6") ≡ found =
    same_Some _ _ (ap (λ (n : ℕ). slice_get (output_to (codes "6") ∷ []) n) (sym output_place) ∙ is) in
    let widths : ◌≡◌ {A = Option ℕ} (Some 8) (Some 7) =
    ap (λ (n : ℕ). option_map (λ (d : Declared). width_of d.line.range) (slice_get all_wires n)) (sym wire_place) ∙ wide
    ∙ ap (λ (l : Line). Some (width_of l.range)) (sym line_is) in
    omega (arith, same_Some 8 7 widths)

pub narrow_output_refused : DenotesNone narrow_output
narrow_output_refused =
    refused narrow_output (module_with (codes "6") (codes "00") (sum_item (codes "i_A_x")))
    (scanned_reads (pieces (codes "6") (codes "00") (sum_pieces (codes "i_A_x"))) (codes "// b") [] refl last_comment)
    (λ ports made denote. narrow_item_refused ports (third _ _ _ _ _ _ _ denote.parts denote.items).1)

pub range_to_one_refused : DenotesNone range_to_one
range_to_one_refused =
    refused range_to_one (module_with (codes "7") (codes "1") (sum_item (codes "i_A_x")))
    (scanned_reads (pieces (codes "7") (codes "1") (sum_pieces (codes "i_A_x"))) (codes "// b") [] refl last_comment)
    (λ ports made denote. let ends = denote.ranges.1.1.0 in omega arith)
