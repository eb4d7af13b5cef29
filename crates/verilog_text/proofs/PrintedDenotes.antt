-- A printed module denotes the module.
use Rattle.std.proofs.Common.{◌≡◌, ℕ, zero, suc, ◌+◌, ◌-◌, ◌<◌, ◌≤◌, ◌^◌, Bool, true, false, cond, ltb, List, [], ◌∷◌, ◌++◌, length, map, take, drop, Some, sym, refl, ap, ◌∙◌, subst, append_assoc, arith}
use Rattle.std.specs.Prelude.{decimal, slice_get, option_map}
use Rattle.std.specs.List.{flat_map, AllByRecursion}
use Rattle.std.proofs.lemmas.Bool.{eq-eqb, ne_eqb}
use Rattle.std.proofs.lemmas.List.{append-nil, length-take-le}
use Rattle.std.proofs.lemmas.Option.{slice_get-get_or}
use Rattle.chw_base.specs.declared.index.WireId.{WireId}
use Rattle.chw_clock.specs.declared.event.Ports.{Ports}
use Rattle.netlist.specs.Sound.{IsWire, IsWireWidth}
use Rattle.netlist.specs.Wires.{driver}
use Rattle.netlist.specs.declared.net.Cell.{Cell}
use Rattle.netlist.specs.declared.net.Module.{Module}
use Rattle.name_tables.specs.Names.{AreDistinct}
use Rattle.verilog_text.specs.Declared.{Declared, declared_by, declared_input, input_wires, lines_of, outputs_of, value, width_of}
use Rattle.verilog_text.specs.Denotes.{DenotesModule, ItemIs, ItemsAre, Part, Scene, assigned_to, cells_of, scene_of}
use Rattle.verilog_text.specs.Denotes.ItemIs.{shows}
use Rattle.verilog_text.specs.Denotes.Part.{a_cell, an_output, declaration}
use Rattle.verilog_text.specs.Source.{Item, Line, ModuleItem, all_of}
use Rattle.verilog_text.specs.Text.{inner_scope, name_in, width_in}
use Rattle.verilog_text.proofs.Numbered.{map_numbered, numbered_all, numbered_get, numbered_length}
use Rattle.verilog_text.proofs.Places.{place_at}
use Rattle.verilog_text.proofs.PrintedFits.{all_at}
use Rattle.verilog_text.proofs.PrintedItems.{CellFacts, cell_is, declared_is, name_is, range_means, wide_as_line}
use Rattle.verilog_text.proofs.PrintedModules.{ModuleFits, ports_some}
use Rattle.verilog_text.proofs.PrintedNames.{BitLaws}
use Rattle.verilog_text.proofs.PrintedSource.{cell_item, declared_item, inner_item, module_item, numbered_as, ports_of, shown_item}
use Rattle.verilog_text.proofs.PrintedWires.{PortsApart, all_append, all_wires, declares_none, entry, in_order, input_line, inputs_are, later_wire, names_distinct, output_line, output_lines, output_names_are, outputs_are, scope_with, signals_are, wires, wires_are}

-- the parts of a printed module
abbrev no_parts : ℕ → List ℕ → List Part
no_parts k widths = numbered_as (λ j (width : ℕ). declaration) k widths

abbrev cell_parts : ℕ → List Cell → List Part
cell_parts k cells = numbered_as (λ j (cell : Cell). a_cell cell) k cells

abbrev shown_parts : ℕ → List WireId → List Part
shown_parts k ws = numbered_as (λ j (w : WireId). an_output j w) k ws

abbrev pub parts_of : Module → List Part
parts_of m = no_parts m.inputs (drop m.inputs m.widths) ++ (cell_parts 0 m.cells ++ shown_parts 0 m.outputs)

cells_in_shown : (k : ℕ) (ws : List WireId) → cells_of (shown_parts k ws) ≡ []
cells_in_shown k [] = refl
cells_in_shown k (w ∷ ws) = cells_in_shown (k + 1) ws

cells_in_cells : (k : ℕ) (cells : List Cell) (more : List Part) → cells_of more ≡ [] → cells_of (cell_parts k cells ++ more) ≡ cells
cells_in_cells k [] more none = none
cells_in_cells k (cell ∷ cells) more none = ap (λ (l : List Cell). cell ∷ l) (cells_in_cells (k + 1) cells more none)

cells_behind : (k : ℕ) (widths : List ℕ) (more : List Part) → cells_of (no_parts k widths ++ more) ≡ cells_of more
cells_behind k [] more = refl
cells_behind k (width ∷ widths) more = cells_behind (k + 1) widths more

cells_are : (m : Module) → cells_of (parts_of m) ≡ m.cells
cells_are m =
    cells_behind m.inputs (drop m.inputs m.widths) (cell_parts 0 m.cells ++ shown_parts 0 m.outputs)
    ∙ cells_in_cells 0 m.cells (shown_parts 0 m.outputs) (cells_in_shown 0 m.outputs)

none_assigned_before : (n k : ℕ) (ws : List WireId) → n < k → assigned_to n (shown_parts k ws) ≡ []
none_assigned_before n k [] less = refl
none_assigned_before n k (w ∷ ws) less =
    ap (λ (b : Bool). cond b (w ∷ []) [] ++ assigned_to n (shown_parts (k + 1) ws)) (ne_eqb k n (λ same. omega arith)) ∙ none_assigned_before n (k + 1) ws (omega arith)

one_assigned : (k j : ℕ) (ws : List WireId) (a : WireId) → slice_get ws j ≡ Some a → assigned_to (k + j) (shown_parts k ws) ≡ a ∷ []
one_assigned k j [] a found = absurd (cc)
one_assigned k zero (w ∷ ws) a found =
    let same : w ≡ a = cc in
    let here : k ≡ k + zero = omega arith in
    ap (λ (b : Bool). cond b (w ∷ []) [] ++ assigned_to (k + zero) (shown_parts (k + 1) ws)) (eq-eqb k (k + zero) here)
    ∙ (ap (λ (l : List WireId). w ∷ l) (none_assigned_before (k + zero) (k + 1) ws (omega arith)) ∙ ap (λ (x : WireId). x ∷ []) same)
one_assigned k (suc j) (w ∷ ws) a found =
    let next : k + 1 + j ≡ k + suc j = omega arith in
    ap (λ (b : Bool). cond b (w ∷ []) [] ++ assigned_to (k + suc j) (shown_parts (k + 1) ws)) (ne_eqb k (k + suc j) (λ same. omega arith))
    ∙ (ap (λ (n : ℕ). assigned_to n (shown_parts (k + 1) ws)) (sym next) ∙ one_assigned (k + 1) j ws a found)

assigned_behind_cells : (n k : ℕ) (cells : List Cell) (more : List Part) → assigned_to n (cell_parts k cells ++ more) ≡ assigned_to n more
assigned_behind_cells n k [] more = refl
assigned_behind_cells n k (cell ∷ cells) more = assigned_behind_cells n (k + 1) cells more

assigned_behind : (n k : ℕ) (widths : List ℕ) (more : List Part) → assigned_to n (no_parts k widths ++ more) ≡ assigned_to n more
assigned_behind n k [] more = refl
assigned_behind n k (width ∷ widths) more = assigned_behind n (k + 1) widths more

assigned_are : (m : Module) (k : ℕ) (a : WireId) → slice_get m.outputs k ≡ Some a → assigned_to k (parts_of m) ≡ a ∷ []
assigned_are m k a found =
    let same : 0 + k ≡ k = omega arith in
    assigned_behind k m.inputs (drop m.inputs m.widths) (cell_parts 0 m.cells ++ shown_parts 0 m.outputs)
    ∙ (assigned_behind_cells k 0 m.cells (shown_parts 0 m.outputs)
    ∙ (ap (λ (n : ℕ). assigned_to n (shown_parts 0 m.outputs)) (sym same) ∙ one_assigned 0 k m.outputs a found))

-- the declarations come first
declarations_are : (scene : Scene) (cells : List Cell) (before : List Declared) (k : ℕ) (widths : List ℕ) (rest : List Item) (parts : List Part)
    → ItemsAre scene (before ++ flat_map declared_by (numbered_as (λ j width. declared_item (driver cells j) j width) k widths)) rest parts
    → ItemsAre scene before (numbered_as (λ j width. declared_item (driver cells j) j width) k widths ++ rest) (no_parts k widths ++ parts)
declarations_are scene cells before k [] rest parts are = subst (λ (d : List Declared). ItemsAre scene d rest parts) (append-nil before) are
declarations_are scene cells before k (width ∷ widths) rest parts are =
    let item : Item = declared_item (driver cells k) k width in
    let later : List Item = numbered_as (λ j width. declared_item (driver cells j) j width) (k + 1) widths in (
      declared_is scene before (driver cells k) k width,
      declarations_are scene cells (before ++ declared_by item) (k + 1) widths rest parts
          (subst (λ (d : List Declared). ItemsAre scene d rest parts) (sym (append_assoc before (declared_by item) (flat_map declared_by later))) are),
    )

module _ (laws : BitLaws) (ports : Ports) (m : Module) (input output : ℕ → List ℕ) (fits : ModuleFits laws (scope_with ports m input output) m)
    (apart : PortsApart ports m input output (ports_some laws (scope_with ports m input output) m fits) fits.inputs [])
    (earlier : List Module) (few_earlier : length earlier < 2 ^ 64)
    (used_fits : (k : ℕ) (used : Module) → slice_get earlier k ≡ Some used → ModuleFits laws (inner_scope ports used) used)
    (facts : AllByRecursion (CellFacts laws ports m input output fits apart earlier) m.cells) (name : List ℕ) where
  abbrev item : ModuleItem
  item = module_item (scope_with ports m input output) name m

  abbrev items_before : List ModuleItem
  items_before = numbered_as (inner_item ports) 0 earlier

  abbrev every : List Declared
  every = wires ports m input output

  some : 1 ≤ length (ports_of (scope_with ports m input output) m)
  some = ports_some laws (scope_with ports m input output) m fits

  abbrev shown_lines : List Line
  shown_lines = outputs_of (all_of item.ports)

  abbrev scene : Scene
  scene = scene_of ports items_before item

  cells_here : (k : ℕ) (cells : List Cell) (rest : List Item) (parts : List Part) → AllByRecursion (CellFacts laws ports m input output fits apart earlier) cells
      → ItemsAre scene every rest parts → ItemsAre scene every (numbered_as (cell_item (scope_with ports m input output)) k cells ++ rest) (cell_parts k cells ++ parts)
  cells_here k [] rest parts known are = are
  cells_here k (cell ∷ cells) rest parts known are =
      let none : every ++ declared_by (cell_item (scope_with ports m input output) k cell) ≡ every =
      ap (λ (d : List Declared). every ++ d) (declares_none (scope_with ports m input output) k cell) ∙ append-nil every in (
        cell_is laws ports m input output fits apart earlier few_earlier used_fits shown_lines k cell known.0,
        subst (λ (d : List Declared). ItemsAre scene d (numbered_as (cell_item (scope_with ports m input output)) (k + 1) cells ++ rest) (cell_parts (k + 1) cells ++ parts)) (sym none)
            (cells_here (k + 1) cells rest parts known.1 are),
      )

  shown_here : (k : ℕ) (ws : List WireId) → ((j : ℕ) (w : WireId) → slice_get ws j ≡ Some w → ItemIs scene every (shown_item (scope_with ports m input output) (k + j) w) (an_output (k + j) w))
      → ItemsAre scene every (numbered_as (shown_item (scope_with ports m input output)) k ws) (shown_parts k ws)
  shown_here k [] each = tt
  shown_here k (w ∷ ws) each =
      let here : k + 0 ≡ k = omega arith in (
        subst (λ (n : ℕ). ItemIs scene every (shown_item (scope_with ports m input output) n w) (an_output n w)) here (each 0 w refl),
        subst (λ (d : List Declared). ItemsAre scene d (numbered_as (shown_item (scope_with ports m input output)) (k + 1) ws) (shown_parts (k + 1) ws)) (sym (append-nil every))
            (shown_here (k + 1) ws (λ j v found.
            let next : k + suc j ≡ k + 1 + j = omega arith in
            subst (λ (n : ℕ). ItemIs scene every (shown_item (scope_with ports m input output) n v) (an_output n v)) next (each (suc j) v found))),
      )

  -- an output is assigned its wire
  shown_is : (n : ℕ) (w : WireId) → slice_get m.outputs n ≡ Some w → ItemIs scene every (shown_item (scope_with ports m input output) n w) (an_output n w)
  shown_is n w found =
      let same : 0 + n ≡ n = omega arith in
      let is : IsWire m.widths w = all_at (IsWire m.widths) m.outputs n w fits.outputs found in
      let names = output_names_are ports m input output some fits.inputs name apart_here fits.few_wires fits.few_cells in
      let name_found : slice_get (map (λ (l : Line). l.name) shown_lines) n ≡ Some (output n) =
      ap (λ (l : List (List ℕ)). slice_get l n) names
      ∙ (numbered_get (λ k (v : WireId). output k) 0 n m.outputs ∙ (ap (option_map (λ (v : WireId). output (0 + n))) found ∙ ap (λ (j : ℕ). Some (output j)) same)) in
      let line_found : slice_get shown_lines n ≡ Some (output_line ports m input output n w) =
      ap (λ (l : List Line). slice_get l n) (outputs_are ports m input output some fits.inputs name)
      ∙ (numbered_get (output_line ports m input output) 0 n m.outputs ∙ (ap (option_map (output_line ports m input output (0 + n))) found ∙ ap (λ (j : ℕ). Some (output_line ports m input output j w)) same)) in
      shows (output n) (name_in (scope_with ports m input output) w) n (output_line ports m input output n w) w
      (place_at (map (λ (l : Line). l.name) shown_lines) n (output n) (subst AreDistinct (sym names) apart.outputs) name_found) line_found
      (name_is laws ports m input output fits apart w is)
      (wide_as_line laws ports m input output fits apart w (width_in m w) (slice_get-get_or m.widths w.number 0 is))
    where
      apart_here : PortsApart ports m input output some fits.inputs name
      apart_here = record { domains = apart.domains; inputs = apart.inputs; input_tags = apart.input_tags; outputs = apart.outputs; output_tags = apart.output_tags }

  items_are : ItemsAre scene (input_wires item) item.items (parts_of m)
  items_are =
      let cells : List Item = numbered_as (cell_item (scope_with ports m input output)) 0 m.cells in
      let shown : List Item = numbered_as (shown_item (scope_with ports m input output)) 0 m.outputs in
      declarations_are scene m.cells (input_wires item) m.inputs (drop m.inputs m.widths) (cells ++ shown) (cell_parts 0 m.cells ++ shown_parts 0 m.outputs)
      (subst (λ (d : List Declared). ItemsAre scene d (cells ++ shown) (cell_parts 0 m.cells ++ shown_parts 0 m.outputs)) (sym (wires_are ports m input output some fits.inputs name))
      (cells_here 0 m.cells shown (shown_parts 0 m.outputs) facts
      (shown_here 0 m.outputs (λ j w found.
      let same : j ≡ 0 + j = omega arith in
      subst (λ (n : ℕ). ItemIs scene every (shown_item (scope_with ports m input output) n w) (an_output n w)) same (shown_is j w found)))))

  ends_at_zero : (k width : ℕ) → value (entry ports m input output k width).line.range.to ≡ 0
  ends_at_zero k width = at (ltb k m.inputs)
    where
      at : (b : Bool) → value (cond b (declared_input (input_line ports m input output k width)) (later_wire ports m input output k width)).line.range.to ≡ 0
      at true = refl
      at false = refl

  width_is : (k width : ℕ) → width_of (entry ports m input output k width).line.range ≡ value (decimal (width - 1)) + 1
  width_is k width = at (ltb k m.inputs)
    where
      at : (b : Bool) → width_of (cond b (declared_input (input_line ports m input output k width)) (later_wire ports m input output k width)).line.range ≡ value (decimal (width - 1)) + 1
      at true = refl
      at false = refl

  widths_are : (k : ℕ) (widths : List ℕ) → AllByRecursion IsWireWidth widths → numbered_as (λ j width. width_of (entry ports m input output j width).line.range) k widths ≡ widths
  widths_are k [] all = refl
  widths_are k (width ∷ widths) all =
      let head = width_is k width ∙ range_means width all.0 in
      let tail = widths_are (k + 1) widths all.1 in
      λ i. head i ∷ tail i

  -- the module denotes that for which it is printed
  pub module_denotes : DenotesModule ports items_before item m
  module_denotes = record {
    order = in_order ports m input output some fits.inputs name;
    signals = signals_are ports m input output some fits.inputs name;
    names = names_distinct ports m input output some fits.inputs name apart_here fits.few_wires fits.few_cells;
    ranges = subst (AllByRecursion (λ (l : Line). value l.range.to ≡ 0)) (sym lines_are)
        (all_append (λ (l : Line). value l.range.to ≡ 0) (output_lines ports m input output) (numbered_as (λ j width. (entry ports m input output j width).line) 0 m.widths)
        (numbered_all (λ (l : Line). value l.range.to ≡ 0) (output_line ports m input output) (0 + length m.outputs) 0 m.outputs (omega arith) (λ k w from to. refl))
        (numbered_all (λ (l : Line). value l.range.to ≡ 0) (λ j width. (entry ports m input output j width).line) (0 + length m.widths) 0 m.widths (omega arith) (λ k width from to. ends_at_zero k width)));
    parts = parts_of m;
    items = items_are;
    inputs = sym (ap length (inputs_are ports m input output some fits.inputs name) ∙ numbered_length (input_line ports m input output) 0 (take m.inputs m.widths) ∙ length-take-le m.inputs m.widths fits.inputs);
    widths = sym (ap (map (λ (d : Declared). width_of d.line.range)) (all_wires ports m input output some fits.inputs name)
        ∙ (map_numbered (λ (d : Declared). width_of d.line.range) (entry ports m input output) 0 m.widths ∙ widths_are 0 m.widths fits.widths));
    cells = sym (cells_are m);
    outputs = sym (ap length (outputs_are ports m input output some fits.inputs name) ∙ numbered_length (output_line ports m input output) 0 m.outputs);
    assigned = assigned_are m;
  }
    where
      apart_here : PortsApart ports m input output some fits.inputs name
      apart_here = record { domains = apart.domains; inputs = apart.inputs; input_tags = apart.input_tags; outputs = apart.outputs; output_tags = apart.output_tags }

      lines_are : lines_of item ≡ output_lines ports m input output ++ numbered_as (λ j width. (entry ports m input output j width).line) 0 m.widths
      lines_are i =
          outputs_are ports m input output some fits.inputs name i
          ++ (ap (map (λ (d : Declared). d.line)) (all_wires ports m input output some fits.inputs name) ∙ map_numbered (λ (d : Declared). d.line) (entry ports m input output) 0 m.widths) i
