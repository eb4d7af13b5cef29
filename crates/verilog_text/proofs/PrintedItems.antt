-- The items of a printed module are what they are printed for.
use Rattle.verilog_text.proofs.PrintedDrivers.{has_wire}
use Rattle.verilog_text.specs.Source.Right.{binary, choice, constant, copy, cut, join, unary}
use Rattle.verilog_text.specs.Source.PortItem.{input_port, output_port, signal_port}
use Rattle.verilog_text.specs.Denotes.RightIs.{is_binary, is_choice, is_constant, is_copy, is_cut, is_join, is_unary}
use Rattle.name_tables.specs.Names.{AreDistinct, place_of}
use Rattle.chw_base.specs.declared.index.ModId.{ModId}
use Rattle.std.proofs.lemmas.List.{length-map, length-append, length-take-le}
use Rattle.std.proofs.Common.{◌≡◌, ℕ, ◌+◌, ◌-◌, ◌<◌, ◌≤◌, ◌^◌, Bool, true, false, cond, ◌||◌, eqb, ltb, List, [], ◌∷◌, length, map, get_or, Option, Some, None, sym, refl, ap, ◌∙◌, subst, arith, inr, take, ◌++◌, suc, zero}
use Rattle.std.specs.Prelude.{decimal, slice_get, option_map}
use Rattle.std.specs.List.{AllByRecursion}
use Rattle.std.proofs.lemmas.Bool.{eq-eqb, le-ltb, or_right}
use Rattle.std.proofs.lemmas.Nat.{pow_pos}
use Rattle.std.proofs.lemmas.Option.{slice_get-map, slice_get-get_or}
use Rattle.chw_base.specs.declared.index.DomId.{DomId}
use Rattle.chw_base.specs.declared.index.WireId.{WireId}
use Rattle.chw_base.specs.declared.limits.TheConstants.{RAM_WORDS}
use Rattle.chw_clock.specs.Histories.{is_one_of}
use Rattle.chw_clock.specs.declared.event.Ports.{Ports}
use Rattle.net_rules.specs.WellFormed.{HasFewWords, NamesExist, WidthsAgree}
use Rattle.netlist.specs.NetValue.{zeros}
use Rattle.netlist.specs.Sound.{HasWidth, IsWire, IsWireWidth}
use Rattle.netlist.specs.Wires.{driver, drives}
use Rattle.netlist.specs.declared.net.Cell.{Cell}
use Rattle.netlist.specs.declared.net.Cell.TheVariants.{Reg, Ram, Const, Copy, Join, Cut, Un, Bin, Mux, Use}
use Rattle.netlist.specs.declared.net.Module.{Module}
use Rattle.netlist.specs.declared.net.RamIn.{RamIn}
use Rattle.verilog_text.specs.Declared.{AreNamesOf, Declared, IsAsWide, IsLiteralOf, IsNameOf, IsOfKind, declared_input, value, width_of, port_name}
use Rattle.verilog_text.specs.Declared.Kind.{a_wire}
use Rattle.verilog_text.specs.Denotes.{AreWords, IsAccess, IsClockOf, IsRam, IsReset, ItemIs, Scene, IsUse, RightIs}
use Rattle.verilog_text.specs.Denotes.ItemIs.{declares, keeps, assigns, moves, remembers, uses}
use Rattle.verilog_text.specs.Denotes.Part.{declaration, a_cell}
use Rattle.verilog_text.specs.Names.{clock_name, domain_name, memory_text, reset_name, wire_text, input_text, output_text, module_name, use_text}
use Rattle.verilog_text.specs.Source.{FirstWord, Line, Connection, ModuleItem}
use Rattle.verilog_text.specs.Text.{Scope, literal_text, name_in, zero_word, inner_scope}
use Rattle.verilog_text.proofs.DistinctNames.{clocks_distinct, numbered_distinct}
use Rattle.verilog_text.proofs.Numbered.{numbered_get, numbered_length, flat_numbered, map_numbered, numbered_by_length}
use Rattle.verilog_text.proofs.Places.{place_at}
use Rattle.verilog_text.proofs.PrintedCells.{Prints, all_several, clock_names_some}
use Rattle.verilog_text.proofs.PrintedFits.{all_at, all_from}
use Rattle.verilog_text.proofs.PrintedModules.{ModuleFits, ports_some}
use Rattle.verilog_text.proofs.PrintedNames.{BitLaws, HasBits, literal_means, number_means, value_is}
use Rattle.verilog_text.proofs.PrintedSource.{access_of, declared_item, inner_item, line_of, memory_of, no_word, numbered_as, ram_of, reset_of, word_of, cell_item, connection, connections_of, several}
use Rattle.verilog_text.proofs.PrintedWires.{PortsApart, entry, input_line, kind_of, later_wire, named, scope_with, wires, all_ports, input_lines, output_lines, inputs_are, signals_are, signals, output_line}

-- the declarations of wires declare, whatever stands before
pub declared_is : (scene : Scene) (before : List Declared) (o : Option Cell) (k width : ℕ) → ItemIs scene before (declared_item o k width) declaration
declared_is scene before (Some (Reg w domain initial a)) k width = keeps (line_of width (wire_text k)) (literal_text initial) None
declared_is scene before (Some (Ram w domain words inputs)) k width =
    keeps (line_of width (wire_text k)) (literal_text (zeros width)) (Some (memory_of k width (length words)))
declared_is scene before _ k width = declares (line_of width (wire_text k))

-- a width is what its range says
pub range_means : (width : ℕ) → IsWireWidth width → value (decimal (width - 1)) + 1 ≡ width
range_means width is =
    let some = is.0 in
    let top = is.1 in
    let means = value_is (width - 1) (omega arith) in omega arith

module _ (laws : BitLaws) (ports : Ports) (m : Module) (input output : ℕ → List ℕ) (fits : ModuleFits laws (scope_with ports m input output) m)
    (apart : PortsApart ports m input output (ports_some laws (scope_with ports m input output) m fits) fits.inputs []) where
  abbrev here : Scope
  here = scope_with ports m input output

  abbrev pub all : List Declared
  all = wires ports m input output

  pub name_is : (w : WireId) → IsWire m.widths w → IsNameOf all (name_in here w) w
  name_is w is = named ports m input output (ports_some laws here m fits) fits.inputs [] apart fits.few_wires fits.few_cells w is

  names_are : (ws : List WireId) → AllByRecursion (IsWire m.widths) ws → AreNamesOf all (map (name_in here) ws) ws
  names_are [] is = tt
  names_are (w ∷ ws) is = (name_is w is.0, names_are ws is.1)

  entry_at : (k width : ℕ) → slice_get m.widths k ≡ Some width → slice_get all k ≡ Some (entry ports m input output k width)
  entry_at k width found =
      let same : 0 + k ≡ k = omega arith in
      numbered_get (entry ports m input output) 0 k m.widths ∙ (ap (option_map (entry ports m input output (0 + k))) found ∙ ap (λ (n : ℕ). Some (entry ports m input output n width)) same)

  later_at : (k width : ℕ) → m.inputs ≤ k → entry ports m input output k width ≡ later_wire ports m input output k width
  later_at k width from =
      ap (λ (b : Bool). cond b (declared_input (input_line ports m input output k width)) (later_wire ports m input output k width)) (le-ltb k m.inputs from)

  kind_is : (w : WireId) (cell : Cell) (width : ℕ) → HasWidth m.widths w width → driver m.cells w.number ≡ Some cell → m.inputs ≤ w.number → IsOfKind all w (kind_of (Some cell) w.number width)
  kind_is w cell width wide driver_is from =
      ap (option_map (λ (d : Declared). d.kind)) (entry_at w.number width wide)
      ∙ (ap (λ (d : Declared). Some d.kind) (later_at w.number width from) ∙ ap (λ (o : Option Cell). Some (kind_of o w.number width)) driver_is)

  line_width : (k width : ℕ) → width_of (entry ports m input output k width).line.range ≡ value (decimal (width - 1)) + 1
  line_width k width = at (ltb k m.inputs)
    where
      at : (b : Bool) → width_of (cond b (declared_input (input_line ports m input output k width)) (later_wire ports m input output k width)).line.range ≡ value (decimal (width - 1)) + 1
      at true = refl
      at false = refl

  pub wide_as_line : (w : WireId) (width : ℕ) → HasWidth m.widths w width → IsAsWide all w (value (decimal (width - 1)) + 1)
  wide_as_line w width wide =
      ap (option_map (λ (d : Declared). width_of d.line.range)) (entry_at w.number width wide) ∙ ap Some (line_width w.number width)

  width_fits : (w : WireId) (width : ℕ) → HasWidth m.widths w width → IsWireWidth width
  width_fits w width wide = all_at IsWireWidth m.widths w.number width fits.widths wide

  as_wide : (w : WireId) (width : ℕ) → HasWidth m.widths w width → IsAsWide all w width
  as_wide w width wide =
      subst (IsAsWide all w) (range_means width (width_fits w width wide)) (wide_as_line w width wide)

  clock_is : (d : DomId) → d.number < length ports.domains → IsClockOf ports (clock_name (domain_name ports.domains d)) d
  clock_is d within =
      place_at (map clock_name ports.domains) d.number (clock_name (domain_name ports.domains d)) (clocks_distinct ports.domains apart.domains)
      (slice_get-map clock_name ports.domains d.number ∙ ap (option_map clock_name) (slice_get-get_or ports.domains d.number [] within))

  -- what is known of a cell of the module, among these modules before it
  pub record CellFacts (earlier : List Module) (cell : Cell) : Type 0 where
    pub exist : NamesExist (length ports.domains) earlier m.widths cell
    pub agree : WidthsAgree earlier m.widths cell
    pub few : HasFewWords cell
    pub prints : Prints laws here (length m.outputs) fits.names cell
    pub drives_it : (n : ℕ) → drives n cell ≡ true → (driver m.cells n ≡ Some cell) × (m.inputs ≤ n)

  one_driven : (n : ℕ) → (eqb n n || false) ≡ true
  one_driven n = ap (λ b. b || false) (eq-eqb n n refl)

  plain_wire : (w : WireId) (cell : Cell) → IsWire m.widths w → ((k width : ℕ) → kind_of (Some cell) k width ≡ a_wire) → (driver m.cells w.number ≡ Some cell) × (m.inputs ≤ w.number) → IsOfKind all w a_wire
  plain_wire w cell is plain driven_by =
      let width : ℕ = get_or m.widths w.number 0 in
      kind_is w cell width (slice_get-get_or m.widths w.number 0 is) driven_by.0 driven_by.1 ∙ ap Some (plain w.number width)

  reset_is : (domain : DomId) (initial : List Bool) → HasBits initial → IsReset ports domain initial (reset_of here domain initial)
  reset_is domain initial has = at (is_one_of ports.resets domain) refl
    where
      at : (b : Bool) → is_one_of ports.resets domain ≡ b
          → IsReset ports domain initial (cond b (Some (record { name = reset_name (domain_name ports.domains domain); literal = literal_text initial })) None)
      at true is = (is, refl, literal_means laws initial has)
      at false is = is

  words_are : (wire k : ℕ) (words : List (List Bool)) → k + length words ≤ 2 ^ 64 → AllByRecursion HasBits words → AreWords (memory_text wire) k (numbered_as (word_of wire) k words) words
  words_are wire k [] few has = tt
  words_are wire k (word ∷ words) few has =
      (record { memory_is = refl; place_is = value_is k (omega arith); bits_are = literal_means laws word has.0 }, words_are wire (k + 1) words (omega arith) has.1)

  access_is : (wire count : ℕ) (a : WireId) → IsWire m.widths a → count ≤ RAM_WORDS → IsAccess all (memory_text wire) count (access_of here wire count a) a
  access_is wire count a is few = record {
    address = name_is a is;
    count_is = number_means laws 12 count (omega arith) (omega arith) (omega arith);
    memory_is = refl;
    again_is = refl;
  }

  first_zeros : (words : List (List Bool)) (width : ℕ) → 1 ≤ length words → AllByRecursion (λ (word : List Bool). length word ≡ width) words → zero_word words ≡ zeros width
  first_zeros [] width some each = absurd (omega arith)
  first_zeros (word ∷ words) width some each = ap zeros each.0

  module _ (earlier : List Module) (shown : List Line) where
    abbrev scene : Scene
    scene = record { ports = ports; outputs = shown; earlier = numbered_as (inner_item ports) 0 earlier }

    ram_is : (w : WireId) (domain : DomId) (words : List (List Bool)) (inputs : RamIn) → CellFacts earlier (Ram w domain words inputs) → IsRam scene all (ram_of here w domain words inputs) w domain words inputs
    ram_is w domain words inputs facts =
        let agree = facts.agree in
        let width : ℕ = agree.width in
        let fit = width_fits w width agree.shown in
        let some = fit.0 in
        let top = fit.1 in
        let few = facts.few.1 in
        let any = facts.few.0 in
        let zero_means = number_means laws width 0 some (omega arith) (pow_pos_2 width) in
        let driven_by = facts.drives_it w.number (one_driven w.number) in
        let count = numbered_length (word_of w.number) 0 words in
        record {
          register = name_is w facts.exist.driven.0;
          literal = literal_text (zeros width);
          memory = memory_of w.number width (length words);
          declared = kind_is w (Ram w domain words inputs) width agree.shown driven_by.0 driven_by.1;
          width = width;
          wide = as_wide w width agree.shown;
          first = zero_means;
          zeros = subst (λ (bits : List Bool). IsLiteralOf (literal_text bits) width 0) (sym (first_zeros words width any agree.each_word)) zero_means;
          has_words = record { ends = refl; wide = range_means width fit; begins = refl; many = let means = value_is (length words - 1) (omega arith) in omega arith };
          words_are = subst (λ (l : List FirstWord). AreWords (memory_text w.number) 0 l words) (sym (all_several no_word (numbered_as (word_of w.number) 0 words) (omega arith)))
              (words_are w.number 0 words (omega arith) facts.prints.2.2);
          clock = clock_is domain facts.exist.part;
          enable = name_is inputs.enable facts.exist.read.1.0;
          write = access_is w.number (length words) inputs.place facts.exist.read.1.1.0 few;
          value_is = name_is inputs.value facts.exist.read.1.1.1.0;
          read = access_is w.number (length words) inputs.read facts.exist.read.0 few;
        }
      where
        pow_pos_2 : (n : ℕ) → 0 < 2 ^ n
        pow_pos_2 n = pow_pos n

map_same : {A : Type 0} (f : A → A) → ((x : A) → f x ≡ x) → (xs : List A) → map f xs ≡ xs
map_same f same [] = refl
map_same f same (x ∷ xs) = let tail = map_same f same xs in λ i. same x i ∷ tail i

map_map : {A B C : Type 0} (g : B → C) (f : A → B) (xs : List A) → map g (map f xs) ≡ map (λ (x : A). g (f x)) xs
map_map g f [] = refl
map_map g f (x ∷ xs) = let tail = map_map g f xs in λ i. g (f x) ∷ tail i

numbered_plain : {A B : Type 0} (f : A → B) (k : ℕ) (xs : List A) → numbered_as (λ j (x : A). f x) k xs ≡ map f xs
numbered_plain f k [] = refl
numbered_plain f k (x ∷ xs) = let tail = numbered_plain f (k + 1) xs in λ i. f x ∷ tail i

-- the names of ports in order
port_names : (s : List (List ℕ)) (i o : List Line) → map port_name (map signal_port s ++ (map input_port i ++ map output_port o)) ≡ s ++ (map (λ (l : Line). l.name) i ++ map (λ (l : Line). l.name) o)
port_names (x ∷ s) i o = ap (λ (l : List (List ℕ)). x ∷ l) (port_names s i o)
port_names [] (x ∷ i) o = ap (λ (l : List (List ℕ)). x.name ∷ l) (port_names [] i o)
port_names [] [] (x ∷ o) = ap (λ (l : List (List ℕ)). x.name ∷ l) (port_names [] [] o)
port_names [] [] [] = refl

-- what the parts of connections are
connections_map : (f : Connection → List ℕ) (s : List (List ℕ)) (a b : List Connection) → ((n : List ℕ) → f (connection n n) ≡ n)
    → map f (map (λ (n : List ℕ). connection n n) s ++ (a ++ b)) ≡ s ++ (map f a ++ map f b)
connections_map f [] [] b same = refl
connections_map f [] (x ∷ a) b same = ap (λ (l : List (List ℕ)). f x ∷ l) (connections_map f [] a b same)
connections_map f (n ∷ s) a b same = let tail = connections_map f s a b same in λ i. same n i ∷ tail i

wire_among : (ws : List WireId) (k : ℕ) (w : WireId) → slice_get ws k ≡ Some w → has_wire w.number ws ≡ true
wire_among [] k w found = absurd (cc)
wire_among (x ∷ ws) zero w found =
    let same : x ≡ w = cc in ap (λ b. b || has_wire w.number ws) (eq-eqb x.number w.number (ap (λ (y : WireId). y.number) same))
wire_among (x ∷ ws) (suc k) w found = or_right (eqb x.number w.number) (has_wire w.number ws) (wire_among ws k w found)

module _ (ports : Ports) (earlier : List Module) (few : length earlier < 2 ^ 64) where
  abbrev pub earlier_items : List ModuleItem
  earlier_items = numbered_as (inner_item ports) 0 earlier

  module_names : map (λ (m : ModuleItem). m.name) earlier_items ≡ numbered_as (λ k (m : Module). module_name k) 0 earlier
  module_names = map_numbered (λ (m : ModuleItem). m.name) (inner_item ports) 0 earlier

  names_distinct : AreDistinct (numbered_as (λ k (m : Module). module_name k) 0 earlier)
  names_distinct =
      subst AreDistinct (flat_numbered (λ (n : List ℕ). n ∷ []) (λ k (m : Module). module_name k) (λ k (m : Module). module_name k) 0 earlier (λ k m. refl))
      (numbered_distinct 109 (λ k (m : Module). module_name k) (λ (n : List ℕ). n ∷ []) (λ k m. inr refl) 0 earlier (omega arith))

  pub earlier_distinct : AreDistinct (map (λ (m : ModuleItem). m.name) earlier_items)
  earlier_distinct = subst AreDistinct (sym module_names) names_distinct

  -- a module before this one is found by its name
  pub module_place : (k : ℕ) (used : Module) → slice_get earlier k ≡ Some used → place_of (map (λ (m : ModuleItem). m.name) earlier_items) (module_name k) ≡ Some k
  module_place k used found =
      let same : 0 + k ≡ k = omega arith in
      place_at (map (λ (m : ModuleItem). m.name) earlier_items) k (module_name k) earlier_distinct
      (ap (λ (l : List (List ℕ)). slice_get l k) module_names
      ∙ (numbered_get (λ j (m : Module). module_name j) 0 k earlier ∙ (ap (option_map (λ (m : Module). module_name (0 + k))) found ∙ ap (λ (n : ℕ). Some (module_name n)) same)))

  pub module_found : (k : ℕ) (used : Module) → slice_get earlier k ≡ Some used → slice_get earlier_items k ≡ Some (inner_item ports k used)
  module_found k used found =
      let same : 0 + k ≡ k = omega arith in
      numbered_get (inner_item ports) 0 k earlier ∙ (ap (option_map (inner_item ports (0 + k))) found ∙ ap (λ (n : ℕ). Some (inner_item ports n used)) same)

module _ (laws : BitLaws) (ports : Ports) (m : Module) (input output : ℕ → List ℕ) (fits : ModuleFits laws (scope_with ports m input output) m)
    (apart : PortsApart ports m input output (ports_some laws (scope_with ports m input output) m fits) fits.inputs [])
    (earlier : List Module) (few_earlier : length earlier < 2 ^ 64)
    (used_fits : (k : ℕ) (used : Module) → slice_get earlier k ≡ Some used → ModuleFits laws (inner_scope ports used) used) (shown : List Line) where
  abbrev at_scope : Scope
  at_scope = scope_with ports m input output

  abbrev every : List Declared
  every = wires ports m input output

  abbrev Facts : Cell → Type 0
  Facts cell = CellFacts laws ports m input output fits apart earlier cell

  abbrev pub scene_here : Scene
  scene_here = record { ports = ports; outputs = shown; earlier = numbered_as (inner_item ports) 0 earlier }

  found_name : (w : WireId) → IsWire m.widths w → IsNameOf every (name_in at_scope w) w
  found_name = name_is laws ports m input output fits apart

  drives_all : (place : ModId) (reads drives : List WireId) → Facts (Use place reads drives) → AllByRecursion (λ (w : WireId). IsOfKind every w a_wire) drives
  drives_all place reads drives facts =
      all_from (λ (w : WireId). IsOfKind every w a_wire) drives
      (λ k w found. plain_wire laws ports m input output fits apart w (Use place reads drives) (all_at (IsWire m.widths) drives k w facts.exist.driven found) (λ j width. refl)
      (facts.drives_it w.number (wire_among drives k w found)))

  use_is : (k : ℕ) (place : ModId) (reads drives : List WireId) → Facts (Use place reads drives)
      → IsUse scene_here every (record { used = module_name place.number; name = use_text k; connections = several (connection [] []) (connections_of at_scope reads drives) }) place reads drives
  use_is k place reads drives facts =
      let part = facts.exist.part in
      let used : Module = part.used in
      let fit = used_fits place.number used part.found in
      let some = ports_some laws (inner_scope ports used) used fit in
      let s : List (List ℕ) = signals ports used input_text output_text in
      let i : List Line = input_lines ports used input_text output_text in
      let o : List Line = output_lines ports used input_text output_text in
      let read : List Connection = numbered_as (λ j (w : WireId). connection (input_text j) (name_in at_scope w)) 0 reads in
      let driven_here : List Connection = numbered_as (λ j (w : WireId). connection (output_text j) (name_in at_scope w)) 0 drives in
      let front = length-take-le used.inputs used.widths fit.inputs in
      let read_count = part.inputs in
      let some_connections : 1 ≤ length (connections_of at_scope reads drives) =
      omega (arith, clock_names_some ports.resets 0 ports.domains fits.names.some, length-map s (λ (n : List ℕ). connection n n), length-append (map (λ (n : List ℕ). connection n n) s) (read ++ driven_here)) in
      let connections = all_several (connection [] []) (connections_of at_scope reads drives) some_connections in
      let inputs_same : map (λ (c : Connection). c.port) read ≡ map (λ (l : Line). l.name) i =
      map_numbered (λ (c : Connection). c.port) (λ j (w : WireId). connection (input_text j) (name_in at_scope w)) 0 reads
      ∙ numbered_by_length input_text 0 reads (take used.inputs used.widths) (omega arith)
      ∙ sym (map_numbered (λ (l : Line). l.name) (input_line ports used input_text output_text) 0 (take used.inputs used.widths)) in
      let outputs_same : map (λ (c : Connection). c.port) driven_here ≡ map (λ (l : Line). l.name) o =
      map_numbered (λ (c : Connection). c.port) (λ j (w : WireId). connection (output_text j) (name_in at_scope w)) 0 drives
      ∙ numbered_by_length output_text 0 drives used.outputs part.outputs
      ∙ sym (map_numbered (λ (l : Line). l.name) (output_line ports used input_text output_text) 0 used.outputs) in
      let ordered_ports = all_ports ports used input_text output_text some fit.inputs (module_name place.number) in
      let signals_same = signals_are ports used input_text output_text some fit.inputs (module_name place.number) in
      let inputs_found = inputs_are ports used input_text output_text some fit.inputs (module_name place.number) in
      record {
        named = module_place ports earlier few_earlier place.number used part.found;
        used = inner_item ports place.number used;
        found = module_found ports earlier few_earlier place.number used part.found;
        ports = ap (map (λ (c : Connection). c.port)) connections ∙ connections_map (λ (c : Connection). c.port) s read driven_here (λ n. refl)
            ∙ (λ j. s ++ (inputs_same j ++ outputs_same j)) ∙ sym (port_names s i o) ∙ sym (ap (map port_name) ordered_ports);
        read_names = map (name_in at_scope) reads;
        driven_names = map (name_in at_scope) drives;
        joined = ap (map (λ (c : Connection). c.wire)) connections ∙ connections_map (λ (c : Connection). c.wire) s read driven_here (λ n. refl)
            ∙ (λ j. sym signals_same j
            ++ ((map_numbered (λ (c : Connection). c.wire) (λ j (w : WireId). connection (input_text j) (name_in at_scope w)) 0 reads ∙ numbered_plain (name_in at_scope) 0 reads) j
            ++ (map_numbered (λ (c : Connection). c.wire) (λ j (w : WireId). connection (output_text j) (name_in at_scope w)) 0 drives ∙ numbered_plain (name_in at_scope) 0 drives) j));
        inputs = length-map reads (name_in at_scope) ∙ read_count ∙ sym (ap length inputs_found ∙ numbered_length (input_line ports used input_text output_text) 0 (take used.inputs used.widths) ∙ front);
        reads_are = names_are laws ports m input output fits apart reads facts.exist.read;
        drives_are = names_are laws ports m input output fits apart drives facts.exist.driven;
        kinds = drives_all place reads drives facts;
      }

  -- an item is the cell for which it is printed
  pub cell_is : (k : ℕ) (cell : Cell) → Facts cell → ItemIs scene_here every (cell_item at_scope k cell) (a_cell cell)
  cell_is k (Const w bits) facts =
      assigns (name_in at_scope w) (constant (literal_text bits)) w (Const w bits) (found_name w facts.exist.driven.0)
      (plain_wire laws ports m input output fits apart w (Const w bits) facts.exist.driven.0 (λ j width. refl) (facts.drives_it w.number (one_driven laws ports m input output fits apart w.number)))
      (is_constant (literal_text bits) bits (literal_means laws bits facts.prints.1))
  cell_is k (Copy w a) facts =
      assigns (name_in at_scope w) (copy (name_in at_scope a)) w (Copy w a) (found_name w facts.exist.driven.0)
      (plain_wire laws ports m input output fits apart w (Copy w a) facts.exist.driven.0 (λ j width. refl) (facts.drives_it w.number (one_driven laws ports m input output fits apart w.number)))
      (is_copy (name_in at_scope a) a (found_name a facts.exist.read.0))
  cell_is k (Join w parts) facts =
      let some = facts.prints.1 in
      let count = length-map parts (name_in at_scope) in
      let names = all_several [] (map (name_in at_scope) parts) (omega arith) in
      assigns (name_in at_scope w) (join (several [] (map (name_in at_scope) parts))) w (Join w parts) (found_name w facts.exist.driven.0)
      (plain_wire laws ports m input output fits apart w (Join w parts) facts.exist.driven.0 (λ j width. refl) (facts.drives_it w.number (one_driven laws ports m input output fits apart w.number)))
      (is_join (several [] (map (name_in at_scope) parts)) parts
      (subst (λ (l : List (List ℕ)). AreNamesOf every l parts) (sym names) (names_are laws ports m input output fits apart parts facts.exist.read)))
  cell_is k (Cut w a high low) facts =
      let right : RightIs every w (cut (name_in at_scope a) (record { from = decimal high; to = decimal low })) (Cut w a (value (decimal high)) (value (decimal low))) =
      is_cut (name_in at_scope a) (record { from = decimal high; to = decimal low }) a (found_name a facts.exist.read.0) in
      let highs = value_is high facts.prints.2 in
      let lows = value_is low facts.prints.3 in
      assigns (name_in at_scope w) (cut (name_in at_scope a) (record { from = decimal high; to = decimal low })) w (Cut w a high low) (found_name w facts.exist.driven.0)
      (plain_wire laws ports m input output fits apart w (Cut w a high low) facts.exist.driven.0 (λ j width. refl) (facts.drives_it w.number (one_driven laws ports m input output fits apart w.number)))
      (subst (λ (h : ℕ). RightIs every w (cut (name_in at_scope a) (record { from = decimal high; to = decimal low })) (Cut w a h low)) highs
      (subst (λ (l : ℕ). RightIs every w (cut (name_in at_scope a) (record { from = decimal high; to = decimal low })) (Cut w a (value (decimal high)) l)) lows right))
  cell_is k (Un w op a) facts =
      assigns (name_in at_scope w) (unary op (name_in at_scope a)) w (Un w op a) (found_name w facts.exist.driven.0)
      (plain_wire laws ports m input output fits apart w (Un w op a) facts.exist.driven.0 (λ j width. refl) (facts.drives_it w.number (one_driven laws ports m input output fits apart w.number)))
      (is_unary op (name_in at_scope a) a (found_name a facts.exist.read.0))
  cell_is k (Bin w op a b) facts =
      assigns (name_in at_scope w) (binary op (name_in at_scope a) (name_in at_scope b)) w (Bin w op a b) (found_name w facts.exist.driven.0)
      (plain_wire laws ports m input output fits apart w (Bin w op a b) facts.exist.driven.0 (λ j width. refl) (facts.drives_it w.number (one_driven laws ports m input output fits apart w.number)))
      (is_binary op (name_in at_scope a) (name_in at_scope b) a b (found_name a facts.exist.read.0) (found_name b facts.exist.read.1.0))
  cell_is k (Mux w c a b) facts =
      assigns (name_in at_scope w) (choice (name_in at_scope c) (name_in at_scope a) (name_in at_scope b)) w (Mux w c a b) (found_name w facts.exist.driven.0)
      (plain_wire laws ports m input output fits apart w (Mux w c a b) facts.exist.driven.0 (λ j width. refl) (facts.drives_it w.number (one_driven laws ports m input output fits apart w.number)))
      (is_choice (name_in at_scope c) (name_in at_scope a) (name_in at_scope b) c a b (found_name c facts.exist.read.0) (found_name a facts.exist.read.1.0) (found_name b facts.exist.read.1.1.0))
  cell_is k (Reg w domain initial a) facts =
      let driven_by = facts.drives_it w.number (one_driven laws ports m input output fits apart w.number) in
      moves (record { clock = clock_name (domain_name ports.domains domain); register = name_in at_scope w; reset = reset_of at_scope domain initial; a = name_in at_scope a }) w domain initial a (record {
        register = found_name w facts.exist.driven.0;
        literal = literal_text initial;
        declared = kind_is laws ports m input output fits apart w (Reg w domain initial a) (length initial) facts.agree.0 driven_by.0 driven_by.1;
        initial_bits = literal_means laws initial facts.prints.2;
        clock = clock_is laws ports m input output fits apart domain facts.exist.part;
        reset = reset_is laws ports m input output fits apart domain initial facts.prints.2;
        taken = found_name a facts.exist.read.0;
      })
  cell_is k (Ram w domain words inputs) facts =
      remembers (ram_of at_scope w domain words inputs) w domain words inputs (ram_is laws ports m input output fits apart earlier shown w domain words inputs facts)
  cell_is k (Use place reads drives) facts =
      uses (record { used = module_name place.number; name = use_text k; connections = several (connection [] []) (connections_of at_scope reads drives) }) place reads drives (use_is k place reads drives facts)
