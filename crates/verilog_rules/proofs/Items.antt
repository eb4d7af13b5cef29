-- What the items of a checked text are.
use Rattle.std.proofs.Common.{◌≡◌, ℕ, zero, suc, ◌+◌, Bool, true, false, cond, ◌&&◌, ◌||◌, List, [], ◌∷◌, ◌++◌, map, Option, Some, None, refl, sym, ap, ◌∙◌, subst, arith}
use Rattle.std.specs.Prelude.{is_some, slice_get, slice_index, option_map}
use Rattle.std.specs.List.{AllByRecursion, flat_map}
use Rattle.std.specs.Str.{bytes_eq}
use Rattle.std.proofs.lemmas.Bool.{eqb-true, false≢true}
use Rattle.std.proofs.lemmas.Option.{same_Some}
use Rattle.chw_clock.specs.declared.event.Ports.{Ports}
use Rattle.name_tables.specs.Names.{place_of}
use Rattle.netlist.specs.declared.net.Cell.TheVariants as cell
use Rattle.verilog_text.specs.Declared.{IsAsWide}
use Rattle.verilog_text.specs.Denotes.{ItemIs, Part, Scene}
use Rattle.verilog_text.specs.Denotes.ItemIs.{assigns, declares, keeps, moves, remembers, shows, uses}
use Rattle.verilog_text.specs.Denotes.Part.{a_cell, an_output, declaration}
use Rattle.verilog_text.specs.Source.{Line as LineItem}
use Rattle.verilog_text.specs.VForms.{IsLiteral}
use Rattle.verilog_tree.specs.Sources.{bytes_of, edge_of, item_of, line_of, memory_if, module_of, right_of, use_of}
use Rattle.verilog_tree.specs.Sources.{ram_of as said_ram}
use Rattle.verilog_tree.specs.declared.item.Item.{Item}
use Rattle.verilog_tree.specs.declared.item.Item.TheVariants as item
use Rattle.verilog_tree.specs.declared.module.Module.{Module}
use Rattle.verilog_tree.specs.declared.right.Right.{Right}
use Rattle.verilog_tree.specs.declared.right.Right.TheVariants as right
use Rattle.verilog_tree.specs.declared.word.Line.{Line}
use Rattle.verilog_tree.specs.declared.word.Word.{Word}
use Rattle.verilog_rules.specs.Declarations.{line_name, ports_in}
use Rattle.verilog_rules.specs.DriverRules.{drives}
use Rattle.verilog_rules.specs.NameRules.{Place, is_copy, item_checks, kind_of, may_be_driven, operand_check, operands_of}
use Rattle.verilog_rules.specs.NetOf.{first_bits, inputs_of, value_cell, wire, words_of}
use Rattle.verilog_rules.specs.Resolving.{assigned, assigned_at, clocked, driver_of, drives_of, edge_driver, operand, reads_of, ram_of, value_of}
use Rattle.verilog_rules.specs.Texts.{width}
use Rattle.verilog_rules.specs.WidthRules.{driver_width_checks, kind_at, literal_of, wide, widths_of, wire_widths}
use Rattle.verilog_rules.specs.declared.resolved.Driver.{Driver}
use Rattle.verilog_rules.specs.declared.resolved.Driver.TheVariants as driver
use Rattle.verilog_rules.specs.declared.resolved.ResolvedModule.{ResolvedModule}
use Rattle.verilog_rules.specs.declared.resolved.Wire.{Wire}
use Rattle.verilog_rules.proofs.Connections.{NoInput, Ordered, plain_kind}
use Rattle.verilog_rules.proofs.Holding.{AllTrue, first_part}
use Rattle.verilog_rules.proofs.Operands.{Known, known, known_as, named, said}
use Rattle.verilog_rules.proofs.Rams.{RamFormed, ram_is}
use Rattle.verilog_rules.proofs.Registers.{ResetFormed, register_is}
use Rattle.verilog_rules.proofs.Uses.{connections, use_is, used_number, used_ports}
use Rattle.verilog_rules.proofs.Values.{LiteralsIn, right_is}
use Rattle.verilog_rules.proofs.Wires.{Extends, WireHolds, as_wide, driven_kind, wide_there}

-- what a driver is to its module
abbrev pub part_of_driver : ResolvedModule → Driver → Part
part_of_driver m (driver.Assign w value) = a_cell (value_cell w.wire value)
part_of_driver m (driver.Output k at a) = an_output k a.wire
part_of_driver m (driver.Register w domain reset a) = a_cell (cell.Reg w.wire domain (first_bits (literal_of (kind_at m.wires w))) a.wire)
part_of_driver m (driver.Ram ram) = a_cell (cell.Ram ram.register.wire ram.domain (words_of ram) (inputs_of ram))
part_of_driver m (driver.Use used reads drives) = a_cell (cell.Use used (map wire reads) (map wire drives))

-- an item has a driver, or is a declaration
abbrev pub part_of : ResolvedModule → List Driver → Part
part_of m [] = declaration
part_of m (d ∷ drivers) = part_of_driver m d

-- the literals of an item have their form
abbrev pub ItemFormed : Item → Type 0
ItemFormed (item.Wire l) = Unit {0}
ItemFormed (item.Register l literal memory) = IsLiteral (bytes_of literal)
ItemFormed (item.Assign name r) = LiteralsIn r
ItemFormed (item.Edge edge) = ResetFormed edge.reset
ItemFormed (item.Ram ram) = RamFormed ram
ItemFormed (item.Use u) = Unit {0}

-- what is known of the module in which an item stands
pub record Around (earl : List Module) (m : ResolvedModule) : Type 0 where
  pub holds : AllByRecursion WireHolds m.wires
  pub ordered : AllByRecursion (λ (n : Module). Ordered 0 (ports_in n)) earl

abbrev pub place_in : Ports → List Module → Place
place_in ports earl = record { ports = ports; earlier = earl }

abbrev pub scene_in : Ports → List Module → ResolvedModule → Scene
scene_in ports earl m = record { ports = ports; outputs = map line_of m.outputs; earlier = map module_of earl }

abbrev pub output_names : ResolvedModule → List (List ℕ)
output_names m = map line_name m.outputs

pub lines_said : (ls : List Line) → map (λ (l : LineItem). l.name) (map line_of ls) ≡ map line_name ls
lines_said [] = refl
lines_said (l ∷ ls) = ap (λ (rest : List (List ℕ)). line_name l ∷ rest) (lines_said ls)

pub line_placed : (ls : List Line) (name : List ℕ) (k : ℕ) → place_of (map line_name ls) name ≡ Some k → (l : Line) × (slice_get ls k ≡ Some l)
line_placed [] name k placed = absurd (cc)
line_placed (l ∷ ls) name k placed = by_case (bytes_eq name (line_name l)) (place_of (map line_name ls) name) refl placed (λ p. line_placed ls name p)
  where
    by_case : (b : Bool) (o : Option ℕ) → place_of (map line_name ls) name ≡ o → cond b (Some 0) (option_map (λ (p : ℕ). p + 1) o) ≡ Some k
        → ((p : ℕ) → place_of (map line_name ls) name ≡ Some p → (l : Line) × (slice_get ls p ≡ Some l)) → (x : Line) × (slice_get (l ∷ ls) k ≡ Some x)
    by_case true o o_is at later = (l, subst (λ (j : ℕ). slice_get (l ∷ ls) j ≡ Some l) (same_Some 0 k at) refl)
    by_case false None o_is at later = absurd (cc)
    by_case false (Some p) o_is at later =
        let next : suc p ≡ k = omega (arith, same_Some (p + 1) k at) in
        let found = later p o_is in
        (found.0, subst (λ (j : ℕ). slice_get (l ∷ ls) j ≡ Some found.0) next found.1)

got_line : (ls : List Line) (k : ℕ) (l : Line) → slice_get ls k ≡ Some l → (slice_get (map line_of ls) k ≡ Some (line_of l)) × (slice_index (widths_of ls) k ≡ width l.range)
got_line [] k l found = absurd (cc)
got_line (n ∷ ls) zero l found = (ap (option_map line_of) found, ap (λ (x : Line). width x.range) (same_Some n l found))
got_line (n ∷ ls) (suc k) l found = got_line ls k l found

-- an assignment to a wire
wire_assigned : (ports : Ports) (earl : List Module) (er : List ResolvedModule) (m : ResolvedModule) (ws : List Wire) (name : Word) (r : Right) → Extends ws m.wires
    → LiteralsIn r → may_be_driven (kind_of ws (bytes_of name)) ≡ true → AllTrue (map (operand_check ws) (operands_of r))
    → AllTrue (driver_width_checks er m (assigned ws name r)) → NoInput m.wires (operand ws name)
    → ItemIs (scene_in ports earl m) (map said ws) (item_of (item.Assign name r)) (part_of_driver m (assigned ws name r))
wire_assigned ports earl er m ws name r extends formed may names widths no_input =
    let k = driven_kind (kind_of ws (bytes_of name)) may in
    assigns (bytes_of name) (right_of r) (operand ws name).wire (value_cell (operand ws name).wire (value_of ws r))
    (named ws name (known_as ws name k.0 k.1)) (plain_kind ws m.wires name extends may no_input)
    (right_is ws (operand ws name).wire r (wire_widths m) (wide (wire_widths m) (operand ws name)) formed names widths)

-- an assignment to an output
output_assigned : (ports : Ports) (earl : List Module) (er : List ResolvedModule) (m : ResolvedModule) (ws : List Wire) (name a : Word) (k : ℕ) → Extends ws m.wires
    → place_of (output_names m) (bytes_of name) ≡ Some k → (operand_check ws a).holds ≡ true → AllTrue (driver_width_checks er m (driver.Output k name.at (operand ws a)))
    → ItemIs (scene_in ports earl m) (map said ws) (item_of (item.Assign name (right.Copy a))) (an_output k (operand ws a).wire)
output_assigned ports earl er m ws name a k extends placed is_known widths =
    let at = line_placed m.outputs (bytes_of name) k placed in
    let got = got_line m.outputs k at.0 at.1 in
    let a_known : Known ws a = known ws a is_known in
    let same : width a_known.wire.line.range ≡ width at.0.range =
    sym (wide_there ws m.wires a extends a_known) ∙ eqb-true (wide (wire_widths m) (operand ws a)) (slice_index (widths_of m.outputs) k) widths.0 ∙ got.1 in
    shows (bytes_of name) (bytes_of a) k (line_of at.0) (operand ws a).wire
    (subst (λ (ns : List (List ℕ)). place_of ns (bytes_of name) ≡ Some k) (sym (lines_said m.outputs)) placed) got.0 (named ws a a_known)
    (subst (λ (n : ℕ). IsAsWide (map said ws) (operand ws a).wire n) same (as_wide ws a a_known))

copies : (r : Right) → is_copy r ≡ true → (a : Word) × (r ≡ right.Copy a)
copies (right.Constant literal) is = absurd (false≢true is)
copies (right.Copy a) is = (a, refl)
copies (right.Join parts) is = absurd (false≢true is)
copies (right.Cut a range) is = absurd (false≢true is)
copies (right.Unary op sign a) is = absurd (false≢true is)
copies (right.Binary op sign a b) is = absurd (false≢true is)
copies (right.Choice c a b) is = absurd (false≢true is)

only_first : (a b : Bool) → (b ≡ true → ⊥) → (a || b) ≡ true → a ≡ true
only_first true b never is = refl
only_first false b never is = absurd (never is)

assign_is : (ports : Ports) (earl : List Module) (er : List ResolvedModule) (m : ResolvedModule) (ws : List Wire) (name : Word) (r : Right) (o : Option ℕ) → Extends ws m.wires
    → place_of (output_names m) (bytes_of name) ≡ o → LiteralsIn r
    → (may_be_driven (kind_of ws (bytes_of name)) || (is_some o && is_copy r)) ≡ true → AllTrue (map (operand_check ws) (operands_of r))
    → AllTrue (driver_width_checks er m (assigned_at o ws name r)) → AllByRecursion (NoInput m.wires) (drives (assigned_at o ws name r))
    → ItemIs (scene_in ports earl m) (map said ws) (item_of (item.Assign name r)) (part_of_driver m (assigned_at o ws name r))
assign_is ports earl er m ws name r None extends placed formed target names widths none =
    wire_assigned ports earl er m ws name r extends formed (only_first (may_be_driven (kind_of ws (bytes_of name))) false false≢true target) names widths none.0
assign_is ports earl er m ws name (right.Copy a) (Some k) extends placed formed target names widths none =
    output_assigned ports earl er m ws name a k extends placed names.0 widths
assign_is ports earl er m ws name (right.Constant literal) (Some k) extends placed formed target names widths none =
    wire_assigned ports earl er m ws name (right.Constant literal) extends formed (only_first (may_be_driven (kind_of ws (bytes_of name))) false false≢true target) names widths none.0
assign_is ports earl er m ws name (right.Join parts) (Some k) extends placed formed target names widths none =
    wire_assigned ports earl er m ws name (right.Join parts) extends formed (only_first (may_be_driven (kind_of ws (bytes_of name))) false false≢true target) names widths none.0
assign_is ports earl er m ws name (right.Cut a range) (Some k) extends placed formed target names widths none =
    wire_assigned ports earl er m ws name (right.Cut a range) extends formed (only_first (may_be_driven (kind_of ws (bytes_of name))) false false≢true target) names widths none.0
assign_is ports earl er m ws name (right.Unary op sign a) (Some k) extends placed formed target names widths none =
    wire_assigned ports earl er m ws name (right.Unary op sign a) extends formed (only_first (may_be_driven (kind_of ws (bytes_of name))) false false≢true target) names widths none.0
assign_is ports earl er m ws name (right.Binary op sign a b) (Some k) extends placed formed target names widths none =
    wire_assigned ports earl er m ws name (right.Binary op sign a b) extends formed (only_first (may_be_driven (kind_of ws (bytes_of name))) false false≢true target) names widths none.0
assign_is ports earl er m ws name (right.Choice c a b) (Some k) extends placed formed target names widths none =
    wire_assigned ports earl er m ws name (right.Choice c a b) extends formed (only_first (may_be_driven (kind_of ws (bytes_of name))) false false≢true target) names widths none.0

first_all : {A : Type 0} (P : A → Type 0) (xs : List A) → AllByRecursion P (xs ++ []) → AllByRecursion P xs
first_all P [] all = tt
first_all P (x ∷ xs) all = (all.0, first_all P xs all.1)

-- an item that passes its checks
pub item_is : (ports : Ports) (earl : List Module) (er : List ResolvedModule) (m : ResolvedModule) (ws : List Wire) (it : Item) → Around earl m → Extends ws m.wires
    → ItemFormed it → AllTrue (item_checks (place_in ports earl) (output_names m) ws it)
    → AllTrue (flat_map (driver_width_checks er m) (driver_of (place_in ports earl) (output_names m) ws it))
    → AllByRecursion (NoInput m.wires) (flat_map drives (driver_of (place_in ports earl) (output_names m) ws it))
    → ItemIs (scene_in ports earl m) (map said ws) (item_of it) (part_of m (driver_of (place_in ports earl) (output_names m) ws it))
item_is ports earl er m ws (item.Wire l) around extends formed names widths none = declares (line_of l)
item_is ports earl er m ws (item.Register l literal memory) around extends formed names widths none = keeps (line_of l) (bytes_of literal) (memory_if memory)
item_is ports earl er m ws (item.Assign name r) around extends formed names widths none =
    let d : Driver = assigned_at (place_of (output_names m) (bytes_of name)) ws name r in
    assign_is ports earl er m ws name r (place_of (output_names m) (bytes_of name)) extends refl formed names.0 names.1
    (first_part (driver_width_checks er m d) [] widths) (first_all (NoInput m.wires) (drives d) none)
item_is ports earl er m ws (item.Edge edge) around extends formed names widths none =
    let holds = register_is (scene_in ports earl m) ws m.wires edge extends around.holds formed names (first_part (driver_width_checks er m (edge_driver ports ws edge)) [] widths) in
    moves (edge_of edge) (operand ws edge.register).wire (clocked ports edge.clock) (first_bits (literal_of (kind_at m.wires (operand ws edge.register)))) (operand ws edge.a).wire holds.is
item_is ports earl er m ws (item.Ram ram) around extends formed names widths none =
    let holds = ram_is (scene_in ports earl m) ws m.wires ram extends around.holds formed names (first_part (driver_width_checks er m (driver.Ram (ram_of ports ws ram))) [] widths) in
    remembers (said_ram ram) (operand ws ram.register).wire (clocked ports ram.clock) (words_of (ram_of ports ws ram)) (inputs_of (ram_of ports ws ram)) holds.is
item_is ports earl er m ws (item.Use u) around extends formed names widths none =
    let holds = use_is ports (map line_of m.outputs) earl ws m.wires u extends around.ordered names (first_all (NoInput m.wires) (drives_of ws (used_ports earl u) (connections u)) none) in
    uses (use_of u) (used_number earl (bytes_of u.used)) (map wire (reads_of ws (used_ports earl u) (connections u))) (map wire (drives_of ws (used_ports earl u) (connections u))) holds.is
