-- The wires and the names that a printed module declares.
use Rattle.std.proofs.Common.{◌≡◌, ℕ, ◌+◌, ◌<◌, ◌≤◌, ◌^◌, Bool, true, false, cond, ltb, List, [], ◌∷◌, ◌++◌, ◌⊎◌, inl, inr, length, map, take, drop, Option, Some, None, sym, refl, ap, ◌∙◌, subst, append_assoc, zero-add, arith}
use Rattle.std.specs.Prelude.{slice_get, option_map, if◌then◌else◌, nat_lt}
use Rattle.std.specs.List.{flat_map, AllByRecursion}
use Rattle.std.proofs.lemmas.Bool.{lt-ltb, le-ltb}
use Rattle.std.proofs.lemmas.Grind.{flat_map-append}
use Rattle.std.proofs.lemmas.List.{append-nil, length-take-le, take-append-drop}
use Rattle.std.proofs.lemmas.Option.{slice_get-get_or}
use Rattle.chw_base.specs.declared.index.WireId.{WireId}
use Rattle.chw_clock.specs.declared.event.Ports.{Ports}
use Rattle.name_tables.specs.Names.{AreDistinct}
use Rattle.netlist.specs.NetValue.{zeros}
use Rattle.netlist.specs.Sound.{IsWire}
use Rattle.netlist.specs.Wires.{driver}
use Rattle.netlist.specs.declared.net.Cell.{Cell}
use Rattle.netlist.specs.declared.net.Cell.TheVariants.{Const, Copy, Join, Cut, Un, Bin, Mux, Reg, Ram, Use}
use Rattle.netlist.specs.declared.net.Module.{Module}
use Rattle.verilog_text.specs.Declared.{AreInOrder, Declared, IsNameOf, Kind, declared_by, declared_input, input_wires, inputs_of, name_of, names_of, other_names, outputs_of, signals_of, wires_of}
use Rattle.verilog_text.specs.Declared.Kind.{a_register, a_wire}
use Rattle.verilog_text.specs.Names.{memory_text, use_text, wire_text}
use Rattle.verilog_text.specs.Source.{Item, Line, ModuleItem, PortItem, all_of}
use Rattle.verilog_text.specs.Source.PortItem.{input_port, output_port, signal_port}
use Rattle.verilog_text.specs.Text.{Scope, clock_names, literal_text, name_in, width_in}
use Rattle.verilog_text.proofs.DistinctNames.{HasTag, distinct_above, numbered_distinct, numbered_tags, signals_distinct, signals_tags, tag, tag_numbered}
use Rattle.verilog_text.proofs.Numbered.{flat_none, flat_numbered, map_numbered, numbered_all, numbered_append, numbered_get, numbered_same}
use Rattle.verilog_text.proofs.Places.{place_at}
use Rattle.verilog_text.proofs.PrintedCells.{all_several}
use Rattle.verilog_text.proofs.PrintedFits.{all_wider}
use Rattle.verilog_text.proofs.PrintedModules.{length_drop}
use Rattle.verilog_text.proofs.PrintedSource.{cell_item, declared_item, declared_items, items_of, line_of, memory_of, module_item, numbered_as, ports_of, shown_item}

-- the parts of ports in order
pub signals_in : (s : List (List ℕ)) (i o : List Line) → signals_of (map signal_port s ++ (map input_port i ++ map output_port o)) ≡ s
signals_in (x ∷ s) i o = ap (λ (l : List (List ℕ)). x ∷ l) (signals_in s i o)
signals_in [] (x ∷ i) o = signals_in [] i o
signals_in [] [] (x ∷ o) = signals_in [] [] o
signals_in [] [] [] = refl

pub inputs_in : (s : List (List ℕ)) (i o : List Line) → inputs_of (map signal_port s ++ (map input_port i ++ map output_port o)) ≡ i
inputs_in (x ∷ s) i o = inputs_in s i o
inputs_in [] (x ∷ i) o = ap (λ (l : List Line). x ∷ l) (inputs_in [] i o)
inputs_in [] [] (x ∷ o) = inputs_in [] [] o
inputs_in [] [] [] = refl

pub outputs_in : (s : List (List ℕ)) (i o : List Line) → outputs_of (map signal_port s ++ (map input_port i ++ map output_port o)) ≡ o
outputs_in (x ∷ s) i o = outputs_in s i o
outputs_in [] (x ∷ i) o = outputs_in [] i o
outputs_in [] [] (x ∷ o) = ap (λ (l : List Line). x ∷ l) (outputs_in [] [] o)
outputs_in [] [] [] = refl

pub all_append : {A : Type 0} (P : A → Type 0) (xs ys : List A) → AllByRecursion P xs → AllByRecursion P ys → AllByRecursion P (xs ++ ys)
all_append P [] ys first second = second
all_append P (x ∷ xs) ys first second = (first.0, all_append P xs ys first.1 second)

-- the scope of a module whose ports have these names
abbrev pub scope_with : Ports → Module → (ℕ → List ℕ) → (ℕ → List ℕ) → Scope
scope_with ports m input output = record { domains = ports.domains; resets = ports.resets; inputs = m.inputs; input = input; output = output }

-- how a wire is declared, by the cell that drives it
abbrev pub kind_of : Option Cell → ℕ → ℕ → Kind
kind_of (Some (Reg w domain initial a)) k width = a_register (literal_text initial) None
kind_of (Some (Ram w domain words inputs)) k width = a_register (literal_text (zeros width)) (Some (memory_of k width (length words)))
kind_of _ k width = a_wire

declared_one : (o : Option Cell) (k width : ℕ) → declared_by (declared_item o k width) ≡ record { line = line_of width (wire_text k); kind = kind_of o k width } ∷ []
declared_one (Some (Reg w domain initial a)) k width = refl
declared_one (Some (Ram w domain words inputs)) k width = refl
declared_one _ k width = refl

memory_or_none : (o : Option Cell) (k width : ℕ) → (other_names (declared_item o k width) ≡ []) ⊎ (other_names (declared_item o k width) ≡ memory_text k ∷ [])
memory_or_none (Some (Reg w domain initial a)) k width = inl refl
memory_or_none (Some (Ram w domain words inputs)) k width = inr refl
memory_or_none _ k width = inl refl

use_or_none : (scope : Scope) (k : ℕ) (cell : Cell) → (other_names (cell_item scope k cell) ≡ []) ⊎ (other_names (cell_item scope k cell) ≡ use_text k ∷ [])
use_or_none scope k (Const w bits) = inl refl
use_or_none scope k (Copy w a) = inl refl
use_or_none scope k (Join w parts) = inl refl
use_or_none scope k (Cut w a high low) = inl refl
use_or_none scope k (Un w op a) = inl refl
use_or_none scope k (Bin w op a b) = inl refl
use_or_none scope k (Mux w c a b) = inl refl
use_or_none scope k (Reg w domain initial a) = inl refl
use_or_none scope k (Ram w domain words inputs) = inl refl
use_or_none scope k (Use m reads drives) = inr refl

pub declares_none : (scope : Scope) (k : ℕ) (cell : Cell) → declared_by (cell_item scope k cell) ≡ []
declares_none scope k (Const w bits) = refl
declares_none scope k (Copy w a) = refl
declares_none scope k (Join w parts) = refl
declares_none scope k (Cut w a high low) = refl
declares_none scope k (Un w op a) = refl
declares_none scope k (Bin w op a b) = refl
declares_none scope k (Mux w c a b) = refl
declares_none scope k (Reg w domain initial a) = refl
declares_none scope k (Ram w domain words inputs) = refl
declares_none scope k (Use m reads drives) = refl

module _ (ports : Ports) (m : Module) (input output : ℕ → List ℕ) where
  abbrev pub scope : Scope
  scope = scope_with ports m input output

  abbrev pub input_line : ℕ → ℕ → Line
  input_line k width = line_of width (input k)

  abbrev pub output_line : ℕ → WireId → Line
  output_line k w = line_of (width_in m w) (output k)

  abbrev pub signals : List (List ℕ)
  signals = clock_names ports.resets 0 ports.domains

  abbrev pub input_lines : List Line
  input_lines = numbered_as input_line 0 (take m.inputs m.widths)

  abbrev pub output_lines : List Line
  output_lines = numbered_as output_line 0 m.outputs

  abbrev pub ordered : List PortItem
  ordered = map signal_port signals ++ (map input_port input_lines ++ map output_port output_lines)

  pub ports_are : ports_of scope m ≡ ordered
  ports_are =
      ap (λ (l : List PortItem). map signal_port signals ++ (l ++ numbered_as (λ k w. output_port (output_line k w)) 0 m.outputs)) (sym (map_numbered input_port input_line 0 (take m.inputs m.widths)))
      ∙ ap (λ (l : List PortItem). map signal_port signals ++ (map input_port input_lines ++ l)) (sym (map_numbered output_port output_line 0 m.outputs))

  -- how each wire is declared
  abbrev pub entry : ℕ → ℕ → Declared
  entry k width =
      if nat_lt k m.inputs then declared_input (input_line k width)
      else record { line = line_of width (wire_text k); kind = kind_of (driver m.cells k) k width }

  abbrev pub wires : List Declared
  wires = numbered_as entry 0 m.widths

  abbrev pub later_wire : ℕ → ℕ → Declared
  later_wire k width = record { line = line_of width (wire_text k); kind = kind_of (driver m.cells k) k width }

  module _ (some : 1 ≤ length (ports_of scope m)) (within : m.inputs ≤ length m.widths) (name : List ℕ) where
    abbrev item : ModuleItem
    item = module_item scope name m

    pub all_ports : all_of item.ports ≡ ordered
    all_ports = all_several (signal_port []) (ports_of scope m) some ∙ ports_are

    pub signals_are : signals_of (all_of item.ports) ≡ signals
    signals_are = ap signals_of all_ports ∙ signals_in signals input_lines output_lines

    pub inputs_are : inputs_of (all_of item.ports) ≡ input_lines
    inputs_are = ap inputs_of all_ports ∙ inputs_in signals input_lines output_lines

    pub outputs_are : outputs_of (all_of item.ports) ≡ output_lines
    outputs_are = ap outputs_of all_ports ∙ outputs_in signals input_lines output_lines

    pub in_order : AreInOrder (all_of item.ports)
    in_order =
        all_ports ∙ (λ i. map signal_port (sym signals_are i) ++ (map input_port (sym inputs_are i) ++ map output_port (sym outputs_are i)))

    split_widths : m.widths ≡ take m.inputs m.widths ++ drop m.inputs m.widths
    split_widths = sym (take-append-drop m.inputs m.widths)

    front_length : length (take m.inputs m.widths) ≡ m.inputs
    front_length = length-take-le m.inputs m.widths within

    -- what is made of wires is made of inputs and of the others
    pub split_numbered : {B : Type 0} (f : ℕ → ℕ → B) → numbered_as f 0 m.widths ≡ numbered_as f 0 (take m.inputs m.widths) ++ numbered_as f m.inputs (drop m.inputs m.widths)
    split_numbered f =
        ap (numbered_as f 0) split_widths ∙ (numbered_append f 0 (take m.inputs m.widths) (drop m.inputs m.widths)
        ∙ ap (λ (n : ℕ). numbered_as f 0 (take m.inputs m.widths) ++ numbered_as f n (drop m.inputs m.widths)) (zero-add (length (take m.inputs m.widths)) ∙ front_length))

    pub declared_wires : flat_map declared_by (declared_items m) ≡ numbered_as later_wire m.inputs (drop m.inputs m.widths)
    declared_wires =
        flat_numbered declared_by (λ k width. declared_item (driver m.cells k) k width) later_wire m.inputs (drop m.inputs m.widths) (λ k width. declared_one (driver m.cells k) k width)

    pub input_entries : input_wires item ≡ numbered_as entry 0 (take m.inputs m.widths)
    input_entries =
        ap (map declared_input) inputs_are ∙ (map_numbered declared_input input_line 0 (take m.inputs m.widths)
        ∙ numbered_same (λ k width. declared_input (input_line k width)) entry m.inputs 0 (take m.inputs m.widths) (omega (arith, front_length))
        (λ k width from to. ap (λ (b : Bool). cond b (declared_input (input_line k width)) (later_wire k width)) (sym (lt-ltb k m.inputs to))))

    later_entries : numbered_as later_wire m.inputs (drop m.inputs m.widths) ≡ numbered_as entry m.inputs (drop m.inputs m.widths)
    later_entries =
        let whole = length_drop m.inputs m.widths within in
        numbered_same later_wire entry (length m.widths) m.inputs (drop m.inputs m.widths) (omega arith)
        (λ k width from to. ap (λ (b : Bool). cond b (declared_input (input_line k width)) (later_wire k width)) (sym (le-ltb k m.inputs from)))

    -- behind its declarations a module has all its wires
    pub wires_are : input_wires item ++ flat_map declared_by (declared_items m) ≡ wires
    wires_are = (λ i. input_entries i ++ (declared_wires ∙ later_entries) i) ∙ sym (split_numbered entry)

    abbrev cell_items : List Item
    cell_items = numbered_as (cell_item scope) 0 m.cells

    abbrev shown_items : List Item
    shown_items = numbered_as (shown_item scope) 0 m.outputs

    items_flat : {A : Type 0} (f : Item → List A) → flat_map f (items_of scope m) ≡ flat_map f (declared_items m) ++ (flat_map f cell_items ++ flat_map f shown_items)
    items_flat f =
        flat_map-append f (declared_items m) (cell_items ++ shown_items) ∙ ap (λ l. flat_map f (declared_items m) ++ l) (flat_map-append f cell_items shown_items)

    pub all_wires : wires_of item ≡ wires
    all_wires =
        ap (λ (l : List Declared). input_wires item ++ l) (items_flat declared_by
        ∙ ap (λ (l : List Declared). flat_map declared_by (declared_items m) ++ (l ++ flat_map declared_by shown_items)) (flat_none declared_by (cell_item scope) 0 m.cells (declares_none scope))
        ∙ ap (λ (l : List Declared). flat_map declared_by (declared_items m) ++ l) (flat_none declared_by (shown_item scope) 0 m.outputs (λ k w. refl))
        ∙ append-nil (flat_map declared_by (declared_items m))) ∙ wires_are

    -- the names of wires
    abbrev pub wire_at : ℕ → List ℕ
    wire_at k = name_in scope (record { number = k })

    entry_name : (k width : ℕ) → name_of (entry k width) ≡ wire_at k
    entry_name k width = at (ltb k m.inputs)
      where
        at : (b : Bool) → name_of (cond b (declared_input (input_line k width)) (later_wire k width)) ≡ cond b (input k) (wire_text k)
        at true = refl
        at false = refl

    pub wire_names : map name_of wires ≡ numbered_as (λ k (width : ℕ). wire_at k) 0 m.widths
    wire_names =
        map_numbered name_of entry 0 m.widths
        ∙ numbered_same (λ k width. name_of (entry k width)) (λ k (width : ℕ). wire_at k) (length m.widths) 0 m.widths (omega arith) (λ k width from to. entry_name k width)

    abbrev input_names : List (List ℕ)
    input_names = numbered_as (λ k (width : ℕ). input k) 0 (take m.inputs m.widths)

    abbrev later_names : List (List ℕ)
    later_names = numbered_as (λ k (width : ℕ). wire_text k) m.inputs (drop m.inputs m.widths)

    split_names : map name_of wires ≡ input_names ++ later_names
    split_names =
        let whole = length_drop m.inputs m.widths within in
        wire_names ∙ split_numbered (λ k (width : ℕ). wire_at k)
        ∙ (λ i. numbered_same (λ k (width : ℕ). wire_at k) (λ k (width : ℕ). input k) m.inputs 0 (take m.inputs m.widths) (omega (arith, front_length))
        (λ k width from to. ap (λ (b : Bool). cond b (input k) (wire_text k)) (lt-ltb k m.inputs to)) i
        ++ numbered_same (λ k (width : ℕ). wire_at k) (λ k (width : ℕ). wire_text k) (length m.widths) m.inputs (drop m.inputs m.widths) (omega arith)
        (λ k width from to. ap (λ (b : Bool). cond b (input k) (wire_text k)) (le-ltb k m.inputs from)) i)

    -- what is needed of the names of the ports
    pub record PortsApart : Type 0 where
      pub domains : AreDistinct ports.domains
      pub inputs : AreDistinct input_names
      pub input_tags : (k : ℕ) → k < m.inputs → HasTag 2 (input k)
      pub outputs : AreDistinct (numbered_as (λ k (w : WireId). output k) 0 m.outputs)
      pub output_tags : (k : ℕ) → k < length m.outputs → HasTag 1 (output k)

    module _ (apart : PortsApart) (few_wires : length m.widths < 2 ^ 64) (few_cells : length m.cells < 2 ^ 64) where
      above : (t u : ℕ) → t < u → (names : List (List ℕ)) → AllByRecursion (HasTag u) names → AllByRecursion (λ (n : List ℕ). t < tag n) names
      above t u less names tags = all_wider (HasTag u) (λ (n : List ℕ). t < tag n) (λ n is. omega (arith, is)) names tags

      abbrev memories : List (List ℕ)
      memories = flat_map other_names (declared_items m)

      abbrev uses : List (List ℕ)
      uses = flat_map other_names cell_items

      rest_small : m.inputs + length (drop m.inputs m.widths) ≤ 2 ^ 64
      rest_small = let whole = length_drop m.inputs m.widths within in omega arith

      others_are : flat_map other_names (items_of scope m) ≡ memories ++ uses
      others_are =
          items_flat other_names
          ∙ ap (λ (l : List (List ℕ)). memories ++ (uses ++ l)) (flat_none other_names (shown_item scope) 0 m.outputs (λ k w. refl))
          ∙ ap (λ (l : List (List ℕ)). memories ++ l) (append-nil uses)

      memory_tags : AllByRecursion (HasTag 4) memories
      memory_tags = numbered_tags 114 (λ k width. declared_item (driver m.cells k) k width) other_names (λ k width. memory_or_none (driver m.cells k) k width) m.inputs (drop m.inputs m.widths) rest_small

      use_tags : AllByRecursion (HasTag 5) uses
      use_tags = numbered_tags 117 (cell_item scope) other_names (use_or_none scope) 0 m.cells (omega arith)

      others_distinct : AreDistinct (memories ++ uses)
      others_distinct =
          distinct_above 4 memories uses
          (numbered_distinct 114 (λ k width. declared_item (driver m.cells k) k width) other_names (λ k width. memory_or_none (driver m.cells k) k width) m.inputs (drop m.inputs m.widths) rest_small)
          (numbered_distinct 117 (cell_item scope) other_names (use_or_none scope) 0 m.cells (omega arith)) memory_tags (above 4 5 (omega arith) uses use_tags)

      others_above : (t : ℕ) → t < 4 → AllByRecursion (λ (n : List ℕ). t < tag n) (memories ++ uses)
      others_above t less =
          all_append (λ (n : List ℕ). t < tag n) memories uses (above t 4 less memories memory_tags) (above t 5 (omega arith) uses use_tags)

      later_tags : AllByRecursion (HasTag 3) later_names
      later_tags = numbered_all (HasTag 3) (λ k (width : ℕ). wire_text k) (2 ^ 64) m.inputs (drop m.inputs m.widths) rest_small (λ k width from to. tag_numbered 119 k to)

      later_distinct : AreDistinct later_names
      later_distinct =
          subst AreDistinct (flat_numbered (λ (n : List ℕ). n ∷ []) (λ k (width : ℕ). wire_text k) (λ k (width : ℕ). wire_text k) m.inputs (drop m.inputs m.widths) (λ k width. refl))
          (numbered_distinct 119 (λ k (width : ℕ). wire_text k) (λ (n : List ℕ). n ∷ []) (λ k width. inr refl) m.inputs (drop m.inputs m.widths) rest_small)

      input_name_tags : AllByRecursion (HasTag 2) input_names
      input_name_tags = numbered_all (HasTag 2) (λ k (width : ℕ). input k) m.inputs 0 (take m.inputs m.widths) (omega (arith, front_length)) (λ k width from to. apart.input_tags k to)

      abbrev behind_outputs : List (List ℕ)
      behind_outputs = (input_names ++ later_names) ++ (memories ++ uses)

      inputs_and_later : AreDistinct (input_names ++ later_names)
      inputs_and_later = distinct_above 2 input_names later_names apart.inputs later_distinct input_name_tags (above 2 3 (omega arith) later_names later_tags)

      wires_above : (t : ℕ) → t < 2 → AllByRecursion (λ (n : List ℕ). t < tag n) (input_names ++ later_names)
      wires_above t less =
          all_append (λ (n : List ℕ). t < tag n) input_names later_names (above t 2 less input_names input_name_tags) (above t 3 (omega arith) later_names later_tags)

      behind_distinct : AreDistinct behind_outputs
      behind_distinct =
          subst AreDistinct (sym (append_assoc input_names later_names (memories ++ uses)))
          (distinct_above 2 input_names (later_names ++ (memories ++ uses)) apart.inputs
          (distinct_above 3 later_names (memories ++ uses) later_distinct others_distinct later_tags (others_above 3 (omega arith))) input_name_tags
          (all_append (λ (n : List ℕ). 2 < tag n) later_names (memories ++ uses) (above 2 3 (omega arith) later_names later_tags) (others_above 2 (omega arith))))

      abbrev shown_names : List (List ℕ)
      shown_names = numbered_as (λ k (w : WireId). output k) 0 m.outputs

      shown_tags : AllByRecursion (HasTag 1) shown_names
      shown_tags = numbered_all (HasTag 1) (λ k (w : WireId). output k) (length m.outputs) 0 m.outputs (omega arith) (λ k w from to. apart.output_tags k to)

      behind_above : (t : ℕ) → t < 2 → AllByRecursion (λ (n : List ℕ). t < tag n) behind_outputs
      behind_above t less = all_append (λ (n : List ℕ). t < tag n) (input_names ++ later_names) (memories ++ uses) (wires_above t less) (others_above t (omega arith))

      pub output_names_are : map (λ (l : Line). l.name) (outputs_of (all_of item.ports)) ≡ shown_names
      output_names_are = ap (map (λ (l : Line). l.name)) outputs_are ∙ map_numbered (λ (l : Line). l.name) output_line 0 m.outputs

      names_are : names_of item ≡ signals ++ (shown_names ++ behind_outputs)
      names_are i = signals_are i ++ (output_names_are i ++ ((ap (map name_of) all_wires ∙ split_names) i ++ others_are i))

      -- no name is declared twice
      pub names_distinct : AreDistinct (names_of item)
      names_distinct =
          subst AreDistinct (sym names_are)
          (distinct_above 0 signals (shown_names ++ behind_outputs) (signals_distinct ports.resets 0 ports.domains apart.domains)
          (distinct_above 1 shown_names behind_outputs apart.outputs behind_distinct shown_tags (behind_above 1 (omega arith)))
          (signals_tags ports.resets 0 ports.domains)
          (all_append (λ (n : List ℕ). 0 < tag n) shown_names behind_outputs (above 0 1 (omega arith) shown_names shown_tags) (behind_above 0 (omega arith))))

      wires_distinct : AreDistinct (map name_of wires)
      wires_distinct = subst AreDistinct (sym split_names) inputs_and_later

      -- the printed name of a wire is that of the wire
      pub named : (w : WireId) → IsWire m.widths w → IsNameOf wires (name_in scope w) w
      named w is =
          place_at (map name_of wires) w.number (name_in scope w) wires_distinct
          (ap (λ (l : List (List ℕ)). slice_get l w.number) wire_names
          ∙ (numbered_get (λ k (width : ℕ). wire_at k) 0 w.number m.widths
          ∙ ap (option_map (λ (width : ℕ). wire_at (0 + w.number))) (slice_get-get_or m.widths w.number 0 is)
          ∙ ap (λ (n : ℕ). Some (wire_at n)) (omega arith)))
