-- The cells of a checked module are well formed.
use Rattle.std.proofs.Common.{◌≡◌, ℕ, zero, suc, ◌+◌, ◌<◌, Bool, true, false, ◌&&◌, ◌||◌, List, [], ◌∷◌, ◌++◌, length, map, Option, Some, None, refl, sym, ap, ◌∙◌, subst, arith}
use Rattle.std.specs.Prelude.{is_some, slice_get, slice_index, MatchOption, ⊤}
use Rattle.std.specs.List.{AllByRecursion, flat_map}
use Rattle.std.proofs.lemmas.Bool.{false≢true}
use Rattle.std.proofs.lemmas.List.{length-map}
use Rattle.std.proofs.lemmas.Option.{get_or_from_slice_get}
use Rattle.chw_base.specs.declared.index.WireId.{WireId}
use Rattle.chw_clock.specs.declared.event.Ports.{Ports}
use Rattle.name_tables.specs.Names.{place_of}
use Rattle.net_rules.specs.WellFormed.{AgreesUse, HasFewWords, NamesExist, WidthsAgree}
use Rattle.netlist.specs.Sound.{HasWidth, IsWire}
use Rattle.netlist.specs.declared.net.Cell.{Cell}
use Rattle.netlist.specs.declared.net.Module.{Module as NetModule}
use Rattle.verilog_text.specs.Declared.{AreNamesOf}
use Rattle.verilog_text.specs.Names.{clock_name}
use Rattle.verilog_tree.specs.Sources.{bytes_of, line_of}
use Rattle.verilog_tree.specs.declared.item.Item.{Item}
use Rattle.verilog_tree.specs.declared.item.Item.TheVariants as item
use Rattle.verilog_tree.specs.declared.module.Module.{Module}
use Rattle.verilog_tree.specs.declared.right.Right.{Right}
use Rattle.verilog_tree.specs.declared.right.Right.TheVariants as right
use Rattle.verilog_tree.specs.declared.word.Line.{Line}
use Rattle.verilog_tree.specs.declared.word.Word.{Word}
use Rattle.verilog_rules.specs.Declarations.{wire_name}
use Rattle.verilog_rules.specs.DriverRules.{drives}
use Rattle.verilog_rules.specs.NameRules.{is_copy, item_checks, kind_of, may_be_driven, operand_check, operands_of}
use Rattle.verilog_rules.specs.NetOf.{cells_by, first_bits, net_module, shown_wires, value_cell, wire}
use Rattle.verilog_rules.specs.Resolving.{assigned, assigned_at, clocked, driver_of, drives_of, edge_driver, operand, ram_of, reads_of, value_of}
use Rattle.verilog_rules.specs.Texts.{width}
use Rattle.verilog_rules.specs.WidthRules.{driver_width_checks, joined_checks, kind_at, literal_of, wide, widths_of, wire_widths}
use Rattle.verilog_rules.specs.declared.resolved.Driver.{Driver}
use Rattle.verilog_rules.specs.declared.resolved.Driver.TheVariants as driver
use Rattle.verilog_rules.specs.declared.resolved.Operand.{Operand}
use Rattle.verilog_rules.specs.declared.resolved.ResolvedModule.{ResolvedModule}
use Rattle.verilog_rules.specs.declared.resolved.Wire.{Wire}
use Rattle.verilog_rules.proofs.Connections.{NoInput}
use Rattle.verilog_rules.proofs.Holding.{AllTrue, first_part}
use Rattle.verilog_rules.proofs.Items.{Around, ItemFormed, output_names, place_in, scene_in}
use Rattle.verilog_rules.proofs.Operands.{Known, has_width, known, known_as, names_said, said}
use Rattle.verilog_rules.proofs.Rams.{ram_is}
use Rattle.verilog_rules.proofs.Registers.{clock_is, register_is}
use Rattle.verilog_rules.proofs.Tops.{place_got}
use Rattle.verilog_rules.proofs.Used.{EarlierFit, got_net, use_agrees}
use Rattle.verilog_rules.proofs.Uses.{connections, use_is, used_number, used_ports}
use Rattle.verilog_rules.proofs.Values.{all_known, is_wide, is_wire, value_agrees}
use Rattle.verilog_rules.proofs.Wires.{Extends, driven_kind, fit, widths_in}

-- what the rules of nets require of a cell
pub record CellWell (domains : ℕ) (earlier : List NetModule) (widths : List ℕ) (c : Cell) : Type 0 where
  pub exist : NamesExist domains earlier widths c
  pub agree : WidthsAgree earlier widths c
  pub few : HasFewWords c

-- and of a driver: that an output is as wide as its wire
abbrev pub DriverWell : ℕ → List NetModule → ResolvedModule → Driver → Type 0
DriverWell domains earlier m (driver.Output j at a) = HasWidth (wire_widths m) a.wire (slice_index (widths_of m.outputs) j)
DriverWell domains earlier m d = AllByRecursion (CellWell domains earlier (wire_widths m)) (cells_by m d)

abbrev HasOwnWidth : List ℕ → Operand → Type 0
HasOwnWidth widths a = HasWidth widths a.wire (wide widths a)

got_within : {A : Type 0} (xs : List A) (n : ℕ) → n < length xs → (x : A) × (slice_get xs n ≡ Some x)
got_within [] n below = absurd (omega arith)
got_within (x ∷ xs) zero below = (x, refl)
got_within (x ∷ xs) (suc n) below = got_within xs n (omega arith)

-- wires that are named have widths
named_have : (ws full : List Wire) (names : List (List ℕ)) (ops : List Operand) → Extends ws full → AreNamesOf (map said ws) names (map wire ops)
    → AllByRecursion (HasOwnWidth (widths_in full)) ops
named_have ws full names [] extends are = tt
named_have ws full [] (a ∷ ops) extends are = absurd are
named_have ws full (name ∷ names) (a ∷ ops) extends are =
    let placed : place_of (map wire_name ws) name ≡ Some a.wire.number = subst (λ (ns : List (List ℕ)). place_of ns name ≡ Some a.wire.number) (names_said ws) are.0 in
    let below : a.wire.number < length ws = subst (λ (n : ℕ). a.wire.number < n) (length-map ws wire_name) (place_got (map wire_name ws) name a.wire.number placed).1 in
    let found = got_within ws a.wire.number below in
    let got : slice_get (widths_in full) a.wire.number ≡ Some (width found.0.line.range) = fit ws full extends a.wire.number found.0 found.1 in
    (got ∙ ap Some (sym (get_or_from_slice_get (widths_in full) a.wire.number (width found.0.line.range) 0 got)), named_have ws full names ops extends are.1)

have_wires : (widths : List ℕ) (ops : List Operand) → AllByRecursion (HasOwnWidth widths) ops → AllByRecursion (IsWire widths) (map wire ops)
have_wires widths [] all = tt
have_wires widths (a ∷ ops) all = (is_wire widths a.wire (wide widths a) all.0, have_wires widths ops all.1)

known_wires : (ws full : List Wire) (names : List Word) → Extends ws full → AllTrue (map (operand_check ws) names) → AllByRecursion (IsWire (widths_in full)) (map wire (map (operand ws) names))
known_wires ws full [] extends all = tt
known_wires ws full (a ∷ names) extends all =
    (is_wire (widths_in full) (operand ws a).wire (wide (widths_in full) (operand ws a)) (has_width ws (widths_in full) a (fit ws full extends) (known ws a all.0)), known_wires ws full names extends all.1)

value_exists : (domains : ℕ) (earlier : List NetModule) (ws full : List Wire) (w : WireId) (r : Right) → Extends ws full → IsWire (widths_in full) w → all_known ws r
    → NamesExist domains earlier (widths_in full) (value_cell w (value_of ws r))
value_exists domains earlier ws full w (right.Constant literal) extends is names = record { driven = (is, tt); read = tt; part = tt }
value_exists domains earlier ws full w (right.Copy a) extends is names = record { driven = (is, tt); read = known_wires ws full (a ∷ []) extends names; part = tt }
value_exists domains earlier ws full w (right.Join parts) extends is names = record { driven = (is, tt); read = known_wires ws full (parts.first ∷ parts.others) extends names; part = tt }
value_exists domains earlier ws full w (right.Cut a range) extends is names = record { driven = (is, tt); read = known_wires ws full (a ∷ []) extends names; part = tt }
value_exists domains earlier ws full w (right.Unary op sign a) extends is names = record { driven = (is, tt); read = known_wires ws full (a ∷ []) extends names; part = tt }
value_exists domains earlier ws full w (right.Binary op sign a b) extends is names = record { driven = (is, tt); read = known_wires ws full (a ∷ b ∷ []) extends names; part = tt }
value_exists domains earlier ws full w (right.Choice c a b) extends is names = record { driven = (is, tt); read = known_wires ws full (c ∷ a ∷ b ∷ []) extends names; part = tt }

value_few : (w : WireId) (ws : List Wire) (r : Right) → HasFewWords (value_cell w (value_of ws r))
value_few w ws (right.Constant literal) = tt
value_few w ws (right.Copy a) = tt
value_few w ws (right.Join parts) = tt
value_few w ws (right.Cut a range) = tt
value_few w ws (right.Unary op sign a) = tt
value_few w ws (right.Binary op sign a b) = tt
value_few w ws (right.Choice c a b) = tt

wire_well : (domains : ℕ) (er : List ResolvedModule) (m : ResolvedModule) (ws : List Wire) (name : Word) (r : Right) → Extends ws m.wires
    → may_be_driven (kind_of ws (bytes_of name)) ≡ true → AllTrue (map (operand_check ws) (operands_of r)) → AllTrue (driver_width_checks er m (assigned ws name r))
    → DriverWell domains (map net_module er) m (assigned ws name r)
wire_well domains er m ws name r extends may names widths =
    let kind_is = driven_kind (kind_of ws (bytes_of name)) may in
    let k : Known ws name = known_as ws name kind_is.0 kind_is.1 in
    let has : HasWidth (wire_widths m) (operand ws name).wire (wide (wire_widths m) (operand ws name)) = has_width ws (wire_widths m) name (fit ws m.wires extends) k in (
      record {
        exist = value_exists domains (map net_module er) ws m.wires (operand ws name).wire r extends (is_wire (wire_widths m) (operand ws name).wire (wide (wire_widths m) (operand ws name)) has) names;
        agree = value_agrees (map net_module er) ws (operand ws name).wire r (wire_widths m) (wide (wire_widths m) (operand ws name)) (fit ws m.wires extends) has names widths;
        few = value_few (operand ws name).wire ws r;
      },
      tt,
    )

only_first : (a b : Bool) → (b ≡ true → ⊥) → (a || b) ≡ true → a ≡ true
only_first true b never is = refl
only_first false b never is = absurd (never is)

assign_well : (domains : ℕ) (er : List ResolvedModule) (m : ResolvedModule) (ws : List Wire) (name : Word) (r : Right) (o : Option ℕ) → Extends ws m.wires
    → (may_be_driven (kind_of ws (bytes_of name)) || (is_some o && is_copy r)) ≡ true → AllTrue (map (operand_check ws) (operands_of r))
    → AllTrue (driver_width_checks er m (assigned_at o ws name r)) → DriverWell domains (map net_module er) m (assigned_at o ws name r)
assign_well domains er m ws name r None extends target names widths =
    wire_well domains er m ws name r extends (only_first (may_be_driven (kind_of ws (bytes_of name))) false false≢true target) names widths
assign_well domains er m ws name (right.Copy a) (Some k) extends target names widths =
    is_wide ws (wire_widths m) a (slice_index (widths_of m.outputs) k) (fit ws m.wires extends) (known ws a names.0) widths.0
assign_well domains er m ws name (right.Constant literal) (Some k) extends target names widths =
    wire_well domains er m ws name (right.Constant literal) extends (only_first (may_be_driven (kind_of ws (bytes_of name))) false false≢true target) names widths
assign_well domains er m ws name (right.Join parts) (Some k) extends target names widths =
    wire_well domains er m ws name (right.Join parts) extends (only_first (may_be_driven (kind_of ws (bytes_of name))) false false≢true target) names widths
assign_well domains er m ws name (right.Cut a range) (Some k) extends target names widths =
    wire_well domains er m ws name (right.Cut a range) extends (only_first (may_be_driven (kind_of ws (bytes_of name))) false false≢true target) names widths
assign_well domains er m ws name (right.Unary op sign a) (Some k) extends target names widths =
    wire_well domains er m ws name (right.Unary op sign a) extends (only_first (may_be_driven (kind_of ws (bytes_of name))) false false≢true target) names widths
assign_well domains er m ws name (right.Binary op sign a b) (Some k) extends target names widths =
    wire_well domains er m ws name (right.Binary op sign a b) extends (only_first (may_be_driven (kind_of ws (bytes_of name))) false false≢true target) names widths
assign_well domains er m ws name (right.Choice c a b) (Some k) extends target names widths =
    wire_well domains er m ws name (right.Choice c a b) extends (only_first (may_be_driven (kind_of ws (bytes_of name))) false false≢true target) names widths

domain_below : (ports : Ports) (clock : Word) (n : ℕ) → place_of (map clock_name ports.domains) (bytes_of clock) ≡ Some n → n < length ports.domains
domain_below ports clock n placed = subst (λ (k : ℕ). n < k) (length-map ports.domains clock_name) (place_got (map clock_name ports.domains) (bytes_of clock) n placed).1

first_all : {A : Type 0} (P : A → Type 0) (xs : List A) → AllByRecursion P (xs ++ []) → AllByRecursion P xs
first_all P [] all = tt
first_all P (x ∷ xs) all = (all.0, first_all P xs all.1)

pub shown_long : (drivers : List Driver) (k : ℕ) (ls : List Line) → length (shown_wires drivers k ls) ≡ length ls
shown_long drivers k [] = refl
shown_long drivers k (l ∷ ls) = ap suc (shown_long drivers (k + 1) ls)

pub item_well : (ports : Ports) (earl : List Module) (er : List ResolvedModule) (m : ResolvedModule) (ws : List Wire) (it : Item) → Around earl m → EarlierFit earl er → Extends ws m.wires
    → ItemFormed it → AllTrue (item_checks (place_in ports earl) (output_names m) ws it)
    → AllTrue (flat_map (driver_width_checks er m) (driver_of (place_in ports earl) (output_names m) ws it))
    → AllByRecursion (NoInput m.wires) (flat_map drives (driver_of (place_in ports earl) (output_names m) ws it))
    → AllByRecursion (DriverWell (length ports.domains) (map net_module er) m) (driver_of (place_in ports earl) (output_names m) ws it)
item_well ports earl er m ws (item.Wire l) around fits extends formed names widths none = tt
item_well ports earl er m ws (item.Register l literal memory) around fits extends formed names widths none = tt
item_well ports earl er m ws (item.Assign name r) around fits extends formed names widths none =
    let d : Driver = assigned_at (place_of (output_names m) (bytes_of name)) ws name r in
    (assign_well (length ports.domains) er m ws name r (place_of (output_names m) (bytes_of name)) extends names.0 names.1 (first_part (driver_width_checks er m d) [] widths), tt)
item_well ports earl er m ws (item.Edge edge) around fits extends formed names widths none =
    let holds = register_is (scene_in ports earl m) ws m.wires edge extends around.holds formed names (first_part (driver_width_checks er m (edge_driver ports ws edge)) [] widths) in
    let n : ℕ = length (first_bits (literal_of (kind_at m.wires (operand ws edge.register)))) in (
      (
        record {
          exist = record {
            driven = (is_wire (wire_widths m) (operand ws edge.register).wire n holds.agrees.0, tt);
            read = (is_wire (wire_widths m) (operand ws edge.a).wire n holds.agrees.1, tt);
            part = domain_below ports edge.clock (clocked ports edge.clock).number (clock_is ports edge.clock names.0);
          };
          agree = holds.agrees;
          few = tt;
        },
        tt,
      ),
      tt,
    )
item_well ports earl er m ws (item.Ram ram) around fits extends formed names widths none =
    let holds = ram_is (scene_in ports earl m) ws m.wires ram extends around.holds formed names (first_part (driver_width_checks er m (driver.Ram (ram_of ports ws ram))) [] widths) in (
      (
        record {
          exist = record {
            driven = (is_wire (wire_widths m) (operand ws ram.register).wire holds.agrees.width holds.agrees.shown, tt);
            read = (
              is_wire (wire_widths m) (operand ws ram.read.address).wire 12 holds.agrees.read,
              (
                is_wire (wire_widths m) (operand ws ram.enable).wire 1 holds.agrees.enable,
                (
                  is_wire (wire_widths m) (operand ws ram.write.address).wire 12 holds.agrees.place,
                  (is_wire (wire_widths m) (operand ws ram.value).wire holds.agrees.width holds.agrees.value, tt),
                ),
              ),
            );
            part = domain_below ports ram.clock (clocked ports ram.clock).number holds.is.clock;
          };
          agree = holds.agrees;
          few = (holds.some, holds.few);
        },
        tt,
      ),
      tt,
    )
item_well ports earl er m ws (item.Use u) around fits extends formed names widths none =
    let its_reads : List Operand = reads_of ws (used_ports earl u) (connections u) in
    let its_drives : List Operand = drives_of ws (used_ports earl u) (connections u) in
    let holds = use_is ports (map line_of m.outputs) earl ws m.wires u extends around.ordered names (first_all (NoInput m.wires) its_drives none) in
    let so = fits (used_number earl (bytes_of u.used)).number holds.used holds.found in
    let ur : ResolvedModule = so.0 in
    let reads_have : AllByRecursion (HasOwnWidth (wire_widths m)) its_reads = named_have ws m.wires holds.is.read_names its_reads extends holds.is.reads_are in
    let drives_have : AllByRecursion (HasOwnWidth (wire_widths m)) its_drives = named_have ws m.wires holds.is.driven_names its_drives extends holds.is.drives_are in
    let d : Driver = driver.Use (used_number earl (bytes_of u.used)) its_reads its_drives in
    let checks : AllTrue (joined_checks (wire_widths m) (Some ur) its_reads its_drives) =
    subst (λ (o : Option ResolvedModule). AllTrue (joined_checks (wire_widths m) o its_reads its_drives)) so.1 (first_part (driver_width_checks er m d) [] widths) in
    let agrees : AgreesUse (wire_widths m) (net_module ur) (map wire its_reads) (map wire its_drives) =
    use_agrees holds.used ur (wire_widths m) its_reads its_drives so.2 holds.inputs reads_have drives_have checks in
    let there : slice_get (map net_module er) (used_number earl (bytes_of u.used)).number ≡ Some (net_module ur) = got_net er (used_number earl (bytes_of u.used)).number ur so.1 in (
      (
        record {
          exist = record {
            driven = have_wires (wire_widths m) its_drives drives_have;
            read = have_wires (wire_widths m) its_reads reads_have;
            part = record {
              used = net_module ur;
              found = there;
              inputs = length-map its_reads wire ∙ holds.inputs ∙ sym so.2.inputs;
              outputs = length-map its_drives wire ∙ holds.outputs ∙ sym (ap (λ (ls : List Line). length ls) so.2.outputs) ∙ sym (shown_long ur.drivers 0 ur.outputs);
            };
          };
          agree = subst (λ (o : Option NetModule). MatchOption o ⊤ (λ used. AgreesUse (wire_widths m) used (map wire its_reads) (map wire its_drives))) (sym there) agrees;
          few = tt;
        },
        tt,
      ),
      tt,
    )
