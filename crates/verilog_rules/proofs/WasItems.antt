-- Items that stand in a text that denotes a net pass their checks.
use Rattle.std.proofs.Common.{◌≡◌, ℕ, zero, suc, ◌+◌, ◌<◌, ◌≤◌, Bool, true, false, ◌&&◌, ◌||◌, List, [], ◌∷◌, ◌++◌, length, map, Option, Some, None, refl, sym, ap, ◌∙◌, subst, arith}
use Rattle.std.specs.Prelude.{is_some, slice_get, slice_index, option_map}
use Rattle.std.specs.List.{AllByRecursion, flat_map}
use Rattle.std.proofs.lemmas.Bool.{eq-eqb, false≢true}
use Rattle.std.proofs.lemmas.Option.{get_or_from_slice_get, same_Some}
use Rattle.chw_base.specs.declared.index.DomId.{DomId}
use Rattle.chw_base.specs.declared.index.ModId.{ModId}
use Rattle.chw_base.specs.declared.index.WireId.{WireId}
use Rattle.chw_base.specs.declared.limits.TheConstants.{RAM_WORDS}
use Rattle.chw_clock.specs.declared.event.Ports.{Ports}
use Rattle.name_tables.specs.Names.{is_among, place_of}
use Rattle.net_rules.specs.WellFormed.{AgreesUse, HasFewWords, WidthsAgree}
use Rattle.netlist.specs.Sound.{HasWidth}
use Rattle.netlist.specs.declared.net.Cell.{Cell}
use Rattle.netlist.specs.declared.net.Cell.TheVariants as cell
use Rattle.netlist.specs.declared.net.Module.{Module as NetModule}
use Rattle.netlist.specs.declared.net.RamIn.{RamIn}
use Rattle.verilog_text.specs.Declared.{Declared, IsAsWide, IsNameOf, IsOfKind, width_of}
use Rattle.verilog_text.specs.Declared.Kind.{a_wire}
use Rattle.verilog_text.specs.Denotes.{IsRam, IsRegister, IsUse, ItemIs, Part, RightIs}
use Rattle.verilog_text.specs.Denotes.ItemIs.{assigns, declares, keeps, moves, remembers, shows, uses}
use Rattle.verilog_text.specs.Denotes.Part.{a_cell, an_output, declaration}
use Rattle.verilog_text.specs.Source.{Line as LineItem, Right as RightItem}
use Rattle.verilog_text.specs.Source.Item.{assign_item}
use Rattle.verilog_text.specs.Source.Right.{copy}
use Rattle.verilog_tree.specs.Sources.{bytes_of, edge_of, item_of, line_of, right_of, use_of}
use Rattle.verilog_tree.specs.Sources.{ram_of as said_ram}
use Rattle.verilog_tree.specs.declared.item.Edge.{Edge}
use Rattle.verilog_tree.specs.declared.item.Item.{Item}
use Rattle.verilog_tree.specs.declared.item.Item.TheVariants as item
use Rattle.verilog_tree.specs.declared.item.Ram.{Ram}
use Rattle.verilog_tree.specs.declared.item.Use.{Use}
use Rattle.verilog_tree.specs.declared.module.Module.{Module}
use Rattle.verilog_tree.specs.declared.right.Right.{Right}
use Rattle.verilog_tree.specs.declared.right.Right.TheVariants as right
use Rattle.verilog_tree.specs.declared.word.Line.{Line}
use Rattle.verilog_tree.specs.declared.word.Word.{Word}
use Rattle.verilog_rules.specs.Declarations.{ports_in}
use Rattle.verilog_rules.specs.DriverRules.{drives}
use Rattle.verilog_rules.specs.NameRules.{item_checks, kind_of, may_be_driven}
use Rattle.verilog_rules.specs.NetOf.{bits, first_bits, net_module, value_cell, wire}
use Rattle.verilog_rules.specs.Resolving.{assigned, assigned_at, clocked, driver_of, drives_of, edge_driver, operand, ram_of, reads_of, value_of}
use Rattle.verilog_rules.specs.Texts.{number, width}
use Rattle.verilog_rules.specs.WidthRules.{driver_width_checks, joined_checks, kind_at, kind_checks, literal_of, wide, widths_of, wire_widths}
use Rattle.verilog_rules.specs.declared.resolved.Driver.{Driver}
use Rattle.verilog_rules.specs.declared.resolved.Driver.TheVariants as driver
use Rattle.verilog_rules.specs.declared.resolved.Kind.{Kind}
use Rattle.verilog_rules.specs.declared.resolved.Kind.TheVariants as kind
use Rattle.verilog_rules.specs.declared.resolved.Operand.{Operand}
use Rattle.verilog_rules.specs.declared.resolved.ResolvedModule.{ResolvedModule}
use Rattle.verilog_rules.specs.declared.resolved.Wire.{Wire}
use Rattle.verilog_rules.proofs.Connected.{may_drive}
use Rattle.verilog_rules.proofs.Connections.{Ordered}
use Rattle.verilog_rules.proofs.Holding.{AllTrue, both_parts}
use Rattle.verilog_rules.proofs.Items.{lines_said, output_names, part_of, part_of_driver, place_in, scene_in}
use Rattle.verilog_rules.proofs.Operands.{Known, got_said, has_width, is_known, kind_said, named_back, said}
use Rattle.verilog_rules.proofs.Rams.{RamWas, ram_checked, ram_was}
use Rattle.verilog_rules.proofs.Registers.{RegisterWas, register_checked, register_was}
use Rattle.verilog_rules.proofs.Used.{EarlierFit, got_net, use_checked}
use Rattle.verilog_rules.proofs.Uses.{UseWas, connections, use_was, used_number, used_ports}
use Rattle.verilog_rules.proofs.Values.{constant_means, right_named, value_checked}
use Rattle.verilog_rules.proofs.Wires.{Extends, HasFewPlaces, fit, plain_said, said_kind, said_wide, wide_there, widths_in}

-- what is required of the cell of a part
abbrev pub PartAgrees : List NetModule → List ℕ → Part → Type 0
PartAgrees earlier widths declaration = Unit {0}
PartAgrees earlier widths (a_cell c) = WidthsAgree earlier widths c × HasFewWords c
PartAgrees earlier widths (an_output k a) = Unit {0}

-- a driven register is declared as its driver requires
pub record WireFits (w : Wire) : Type 0 where
  pub kinds : AllTrue (kind_checks (width w.line.range) w.kind)
  pub few : HasFewPlaces w.kind

abbrev pub DrivenFits : ResolvedModule → Operand → Type 0
DrivenFits m a = (w : Wire) → slice_get m.wires a.wire.number ≡ Some w → WireFits w

-- an item that stands in a text
pub record ItemWas (ports : Ports) (earl : List Module) (er : List ResolvedModule) (m : ResolvedModule) (ws : List Wire) (it : Item) (part : Part) : Type 0 where
  pub names : AllTrue (item_checks (place_in ports earl) (output_names m) ws it)
  pub part_is : part ≡ part_of m (driver_of (place_in ports earl) (output_names m) ws it)
  pub widths : PartAgrees (map net_module er) (wire_widths m) part
      → AllTrue (flat_map (driver_width_checks er m) (driver_of (place_in ports earl) (output_names m) ws it))
  pub driven : PartAgrees (map net_module er) (wire_widths m) part
      → AllByRecursion (DrivenFits m) (flat_map drives (driver_of (place_in ports earl) (output_names m) ws it))

-- no wire that is declared is an output
abbrev pub NoOutput : ResolvedModule → List Wire → Type 0
NoOutput m ws = (name : List ℕ) → is_some (kind_of ws name) ≡ true → place_of (output_names m) name ≡ None

true_first : (a b : Bool) → a ≡ true → (a || b) ≡ true
true_first true b e = refl
true_first false b e = absurd (false≢true e)

or_second : (a b : Bool) → b ≡ true → (a || b) ≡ true
or_second true b e = refl
or_second false b e = e

plain_fits : (w : Wire) → w.kind ≡ kind.Plain → WireFits w
plain_fits w plain = record { kinds = rw plain tt; few = rw plain tt }

-- a wire of this kind fits where the checks of the kind hold at its width
fitted : (m : ResolvedModule) (v : Wire) (k : Kind) (x : Operand) → slice_get m.wires x.wire.number ≡ Some v → kind_at m.wires x ≡ Some k
    → AllTrue (kind_checks (wide (wire_widths m) x) k) → HasFewPlaces k → WireFits v
fitted m v k x found there checks few =
    let kind_is : v.kind ≡ k = same_Some v.kind k (sym (ap (option_map (λ (w : Wire). w.kind)) found) ∙ there) in
    let wide_is : wide (wire_widths m) x ≡ width v.line.range =
    get_or_from_slice_get (wire_widths m) x.wire.number (width v.line.range) 0 (got_width m.wires x.wire.number v found) in
    record { kinds = rw (kind_is, sym wide_is) checks; few = rw kind_is few }
  where
    got_width : (xs : List Wire) (n : ℕ) (v : Wire) → slice_get xs n ≡ Some v → slice_get (widths_in xs) n ≡ Some (width v.line.range)
    got_width [] n v found = absurd (cc)
    got_width (x ∷ xs) zero v found = ap (option_map (λ (w : Wire). width w.line.range)) found
    got_width (x ∷ xs) (suc n) v found = got_width xs n v found

-- wires that a use drives are plain
driven_fit : (m : ResolvedModule) (ws : List Wire) (ops : List Operand) (ids : List WireId) → Extends ws m.wires → ids ≡ map wire ops
    → AllByRecursion (λ (w : WireId). IsOfKind (map said ws) w a_wire) ids → AllByRecursion (DrivenFits m) ops
driven_fit m ws [] ids extends are kinds = tt
driven_fit m ws (a ∷ ops) [] extends are kinds = absurd (cc)
driven_fit m ws (a ∷ ops) (w ∷ ids) extends are kinds =
    let first : w ≡ a.wire = first_wire are in
    let later : ids ≡ map wire ops = later_wires are in
    ((λ v found. plain_fits v (plain_at ws m.wires a.wire v extends (subst (λ (x : WireId). IsOfKind (map said ws) x a_wire) first kinds.0) found)), driven_fit m ws ops ids extends later kinds.1)
  where
    first_wire : {x y : WireId} {xs ys : List WireId} → x ∷ xs ≡ y ∷ ys → x ≡ y
    first_wire is = cc

    later_wires : {x y : WireId} {xs ys : List WireId} → x ∷ xs ≡ y ∷ ys → xs ≡ ys
    later_wires is = cc

    plain_at : (ws full : List Wire) (x : WireId) (v : Wire) → Extends ws full → IsOfKind (map said ws) x a_wire → slice_get full x.number ≡ Some v → v.kind ≡ kind.Plain
    plain_at ws full x v extends of_kind found = at (slice_get ws x.number) refl (subst (λ (o : Option Declared). option_map (λ (d : Declared). d.kind) o ≡ Some a_wire) (got_said ws x.number) of_kind)
      where
        at : (o : Option Wire) → slice_get ws x.number ≡ o → option_map (λ (d : Declared). d.kind) (option_map said o) ≡ Some a_wire → v.kind ≡ kind.Plain
        at None is kinds = absurd (cc)
        at (Some u) is kinds =
            let same : v ≡ u = same_Some v u (sym found ∙ extends x.number u is) in
            ap (λ (y : Wire). y.kind) same ∙ plain_said u.kind (same_Some (kind_said u.kind) a_wire kinds)

kind_known : (ws : List Wire) (name : List ℕ) → may_be_driven (kind_of ws name) ≡ true → is_some (kind_of ws name) ≡ true
kind_known ws name may = by_case (kind_of ws name) may
  where
    by_case : (o : Option Kind) → may_be_driven o ≡ true → is_some o ≡ true
    by_case None is = absurd (false≢true is)
    by_case (Some k) is = refl

all_end : {A : Type 0} (P : A → Type 0) (xs : List A) → AllByRecursion P xs → AllByRecursion P (xs ++ [])
all_end P [] all = tt
all_end P (x ∷ xs) all = (all.0, all_end P xs all.1)

-- of the cell of an assignment, at the wire that is named
assign_was : (ports : Ports) (earl : List Module) (er : List ResolvedModule) (m : ResolvedModule) (ws : List Wire) (name : Word) (r : Right) (w : WireId) (made : Cell)
    → Extends ws m.wires → NoOutput m ws → IsNameOf (map said ws) (bytes_of name) w → IsOfKind (map said ws) w a_wire → RightIs (map said ws) w (right_of r) made
    → ItemWas ports earl er m ws (item.Assign name r) (a_cell made)
assign_was ports earl er m ws name r w made extends none is of_kind right_is =
    let may = may_drive ws name w is of_kind in
    let back = named_back ws name w is in
    let k : Known ws name = back.0 in
    let absent : place_of (output_names m) (bytes_of name) ≡ None = none (bytes_of name) (kind_known ws (bytes_of name) may.0) in
    let wired : (operand ws name).wire ≡ w = may.1 in
    let named_right = right_named ws w r made right_is in
    let d : Driver = assigned ws name r in
    let driver_is : assigned_at (place_of (output_names m) (bytes_of name)) ws name r ≡ d = ap (λ (o : Option ℕ). assigned_at o ws name r) absent in
    let cell_is : made ≡ value_cell (operand ws name).wire (value_of ws r) = named_right.1 ∙ ap (λ (v : WireId). value_cell v (value_of ws r)) (sym wired) in
    let has : HasWidth (wire_widths m) (operand ws name).wire (wide (wire_widths m) (operand ws name)) = has_width ws (wire_widths m) name (fit ws m.wires extends) k in
    let plain : k.kind ≡ kind.Plain = plain_said k.kind (said_kind ws name k a_wire (subst (λ (v : WireId). IsOfKind (map said ws) v a_wire) (sym back.1) of_kind)) in
    record {
      names = (true_first (may_be_driven (kind_of ws (bytes_of name))) _ may.0, named_right.0);
      part_is = ap a_cell cell_is ∙ sym (ap (part_of_driver m) driver_is);
      widths = λ agrees.
          let agree : WidthsAgree (map net_module er) (wire_widths m) (value_cell (operand ws name).wire (value_of ws r)) =
          subst (λ (c : Cell). WidthsAgree (map net_module er) (wire_widths m) c) cell_is agrees.0 in
          let checks : AllTrue (driver_width_checks er m d) =
          value_checked (map net_module er) ws (operand ws name).wire r (wire_widths m) (wide (wire_widths m) (operand ws name)) has (constant_means ws w r made right_is) agree in
          subst (λ (x : Driver). AllTrue (driver_width_checks er m x ++ [])) (sym driver_is) (both_parts (driver_width_checks er m d) [] checks tt);
      driven = λ agrees. subst (λ (x : Driver). AllByRecursion (DrivenFits m) (drives x ++ [])) (sym driver_is)
          ((λ v found. plain_fits v (ap (λ (x : Wire). x.kind) (same_Some v k.wire (sym found ∙ extends (operand ws name).wire.number k.wire k.found)) ∙ k.of_kind ∙ plain)), tt);
    }

output_was : (ports : Ports) (earl : List Module) (er : List ResolvedModule) (m : ResolvedModule) (ws : List Wire) (name a : Word) (k : ℕ) (line : LineItem) (v : WireId)
    → Extends ws m.wires → place_of (map (λ (l : LineItem). l.name) (map line_of m.outputs)) (bytes_of name) ≡ Some k → slice_get (map line_of m.outputs) k ≡ Some line
    → IsNameOf (map said ws) (bytes_of a) v → IsAsWide (map said ws) v (width_of line.range)
    → ItemWas ports earl er m ws (item.Assign name (right.Copy a)) (an_output k v)
output_was ports earl er m ws name a k line v extends placed got is as_wide =
    let back = named_back ws a v is in
    let known_a : Known ws a = back.0 in
    let place : place_of (output_names m) (bytes_of name) ≡ Some k = subst (λ (ns : List (List ℕ)). place_of ns (bytes_of name) ≡ Some k) (lines_said m.outputs) placed in
    let d : Driver = driver.Output k name.at (operand ws a) in
    let driver_is : assigned_at (place_of (output_names m) (bytes_of name)) ws name (right.Copy a) ≡ d = ap (λ (o : Option ℕ). assigned_at o ws name (right.Copy a)) place in
    let line_is = got_line_back m.outputs k line got in
    let wide_is : width known_a.wire.line.range ≡ width_of line.range =
    said_wide ws a known_a (width_of line.range) (subst (λ (x : WireId). IsAsWide (map said ws) x (width_of line.range)) (sym back.1) as_wide) in
    let same : wide (wire_widths m) (operand ws a) ≡ slice_index (widths_of m.outputs) k = wide_there ws m.wires a extends known_a ∙ wide_is ∙ sym line_is in
    let checks : AllTrue (driver_width_checks er m d) = (eq-eqb (wide (wire_widths m) (operand ws a)) (slice_index (widths_of m.outputs) k) same, tt) in
    record {
      names = (or_second (may_be_driven (kind_of ws (bytes_of name))) (is_among (output_names m) (bytes_of name) && true) (rw place refl), (is_known ws a known_a, tt));
      part_is = ap (λ (x : WireId). an_output k x) (sym back.1) ∙ sym (ap (part_of_driver m) driver_is);
      widths = λ agrees. subst (λ (x : Driver). AllTrue (driver_width_checks er m x ++ [])) (sym driver_is) (both_parts (driver_width_checks er m d) [] checks tt);
      driven = λ agrees. subst (λ (x : Driver). AllByRecursion (DrivenFits m) (drives x ++ [])) (sym driver_is) tt;
    }
  where
    got_line_back : (ls : List Line) (k : ℕ) (line : LineItem) → slice_get (map line_of ls) k ≡ Some line → slice_index (widths_of ls) k ≡ width_of line.range
    got_line_back [] k line got = absurd (cc)
    got_line_back (l ∷ ls) zero line got = ap (λ (x : LineItem). width_of x.range) (same_Some (line_of l) line got)
    got_line_back (l ∷ ls) (suc k) line got = got_line_back ls k line got

edge_was : (ports : Ports) (earl : List Module) (er : List ResolvedModule) (m : ResolvedModule) (ws : List Wire) (edge : Edge) (w : WireId) (domain : DomId) (initial : List Bool) (a : WireId)
    → Extends ws m.wires → IsRegister (scene_in ports earl m) (map said ws) (edge_of edge) w domain initial a
    → ItemWas ports earl er m ws (item.Edge edge) (a_cell (cell.Reg w domain initial a))
edge_was ports earl er m ws edge w domain initial a extends is =
    let was : RegisterWas ports ws m.wires edge w domain initial a = register_was (scene_in ports earl m) ws m.wires edge w domain initial a extends is in
    let d : Driver = edge_driver ports ws edge in
    let first : first_bits (literal_of (kind_at m.wires (operand ws edge.register))) ≡ bits was.first = ap (λ (o : Option Kind). first_bits (literal_of o)) was.there in
    let made_is : cell.Reg w domain initial a ≡ cell.Reg (operand ws edge.register).wire (clocked ports edge.clock) (first_bits (literal_of (kind_at m.wires (operand ws edge.register)))) (operand ws edge.a).wire =
    same_reg (sym was.register) was.domain_is (was.initial_is ∙ sym first) (sym was.taken) in
    record {
      names = was.names;
      part_is = ap a_cell made_is;
      widths = λ agrees. both_parts (driver_width_checks er m d) [] (register_checked ports ws m.wires edge w domain initial a extends was agrees.0.0 agrees.0.1).0 tt;
      driven = λ agrees. (
        (λ v found. fitted m v (kind.Register was.first None) (operand ws edge.register) found was.there
            (register_checked ports ws m.wires edge w domain initial a extends was agrees.0.0 agrees.0.1).1 tt),
        tt,
      );
    }
  where
    same_reg : {v w : WireId} {d e : DomId} {bs cs : List Bool} {a b : WireId} → v ≡ w → d ≡ e → bs ≡ cs → a ≡ b → cell.Reg v d bs a ≡ cell.Reg w e cs b
    same_reg p q r s = λ i. cell.Reg (p i) (q i) (r i) (s i)

ram_item_was : (ports : Ports) (earl : List Module) (er : List ResolvedModule) (m : ResolvedModule) (ws : List Wire) (ram : Ram) (w : WireId) (domain : DomId) (words : List (List Bool)) (inputs : RamIn)
    → Extends ws m.wires → IsRam (scene_in ports earl m) (map said ws) (said_ram ram) w domain words inputs
    → ItemWas ports earl er m ws (item.Ram ram) (a_cell (cell.Ram w domain words inputs))
ram_item_was ports earl er m ws ram w domain words inputs extends is =
    let was : RamWas ports ws m.wires ram w domain words inputs = ram_was (scene_in ports earl m) ws m.wires ram w domain words inputs extends is in
    let d : Driver = driver.Ram (ram_of ports ws ram) in
    record {
      names = was.names;
      part_is = ap a_cell (same_ram (sym was.register) was.domain_is was.words_are was.inputs_are);
      widths = λ agrees. both_parts (driver_width_checks er m d) [] (ram_checked ports ws m.wires ram w domain words inputs extends was agrees.0).0 tt;
      driven = λ agrees. (
        (λ v found. fitted m v (kind.Register was.literal (Some was.memory)) (operand ws ram.register) found was.there
            (ram_checked ports ws m.wires ram w domain words inputs extends was agrees.0).1
            (few_places (number was.memory.places.to) (length words) RAM_WORDS was.many agrees.1.1)),
        tt,
      );
    }
  where
    same_ram : {v w : WireId} {d e : DomId} {bs cs : List (List Bool)} {a b : RamIn} → v ≡ w → d ≡ e → bs ≡ cs → a ≡ b → cell.Ram v d bs a ≡ cell.Ram w e cs b
    same_ram p q r s = λ i. cell.Ram (p i) (q i) (r i) (s i)

    few_places : (last count most : ℕ) → last + 1 ≡ count → count ≤ most → last < most
    few_places last count most is below = omega arith

use_item_was : (ports : Ports) (earl : List Module) (er : List ResolvedModule) (m : ResolvedModule) (ws : List Wire) (u : Use) (number : ModId) (reads drives : List WireId)
    → Extends ws m.wires → AllByRecursion (λ (n : Module). Ordered 0 (ports_in n)) earl → EarlierFit earl er
    → IsUse (scene_in ports earl m) (map said ws) (use_of u) number reads drives
    → ItemWas ports earl er m ws (item.Use u) (a_cell (cell.Use number reads drives))
use_item_was ports earl er m ws u number reads driven extends ordered fits is =
    let was : UseWas earl ws u number reads driven = use_was ports (map line_of m.outputs) earl ws u number reads driven ordered is in
    let its_reads : List Operand = reads_of ws (used_ports earl u) (connections u) in
    let its_drives : List Operand = drives_of ws (used_ports earl u) (connections u) in
    let d : Driver = driver.Use (used_number earl (bytes_of u.used)) its_reads its_drives in
    let so = fits number.number was.used was.found in
    record {
      names = was.names;
      part_is = ap a_cell (same_use was.number_is was.reads_are was.drives_are);
      widths = λ agrees.
          let agree : AgreesUse (wire_widths m) (net_module so.0) reads driven = rw (got_net er number.number so.0 so.1) at agrees.0 in
          let agree_so : AgreesUse (wire_widths m) (net_module so.0) (map wire its_reads) (map wire its_drives) =
          subst (λ (x : List WireId). AgreesUse (wire_widths m) (net_module so.0) x (map wire its_drives)) was.reads_are
          (subst (λ (x : List WireId). AgreesUse (wire_widths m) (net_module so.0) reads x) was.drives_are agree) in
          let checks : AllTrue (joined_checks (wire_widths m) (Some so.0) its_reads its_drives) = use_checked was.used so.0 (wire_widths m) its_reads its_drives so.2 agree_so in
          let there : slice_get er (used_number earl (bytes_of u.used)).number ≡ Some so.0 =
          subst (λ (n : ModId). slice_get er n.number ≡ Some so.0) was.number_is so.1 in
          both_parts (driver_width_checks er m d) []
          (subst (λ (o : Option ResolvedModule). AllTrue (joined_checks (wire_widths m) o its_reads its_drives)) (sym there) checks) tt;
      driven = λ agrees. all_end (DrivenFits m) its_drives (driven_fit m ws its_drives driven extends was.drives_are is.kinds);
    }
  where
    same_use : {n o : ModId} {a b c d : List WireId} → n ≡ o → a ≡ b → c ≡ d → cell.Use n a c ≡ cell.Use o b d
    same_use p q r = λ i. cell.Use (p i) (q i) (r i)

copied_text : (r : Right) (source : List ℕ) → copy source ≡ right_of r → (a : Word) × (r ≡ right.Copy a) × (source ≡ bytes_of a)
copied_text (right.Constant literal) source is = absurd (cc)
copied_text (right.Copy a) source is = (a, refl, source_is)
  where
    source_is : source ≡ bytes_of a
    source_is = cc
copied_text (right.Join parts) source is = absurd (cc)
copied_text (right.Cut a range) source is = absurd (cc)
copied_text (right.Unary op sign a) source is = absurd (cc)
copied_text (right.Binary op sign a b) source is = absurd (cc)
copied_text (right.Choice c a b) source is = absurd (cc)

assign_item_was : (ports : Ports) (earl : List Module) (er : List ResolvedModule) (m : ResolvedModule) (ws : List Wire) (name : Word) (r : Right) (said_right : RightItem) (part : Part)
    → Extends ws m.wires → NoOutput m ws → said_right ≡ right_of r
    → ItemIs (scene_in ports earl m) (map said ws) (assign_item (bytes_of name) said_right) part → ItemWas ports earl er m ws (item.Assign name r) part
assign_item_was ports earl er m ws name r said_right part extends none same (assigns text the_right w made is of_kind right_is) =
    assign_was ports earl er m ws name r w made extends none is of_kind (subst (λ (x : RightItem). RightIs (map said ws) w x made) same right_is)
assign_item_was ports earl er m ws name r said_right part extends none same (shows text source k line v placed got is as_wide) =
    let copied = copied_text r source same in
    subst (λ (x : Right). ItemWas ports earl er m ws (item.Assign name x) (an_output k v)) (sym copied.1)
    (output_was ports earl er m ws name copied.0 k line v extends placed got (subst (λ (t : List ℕ). IsNameOf (map said ws) t v) copied.2 is) as_wide)

-- an item that stands in a text
pub item_was : (ports : Ports) (earl : List Module) (er : List ResolvedModule) (m : ResolvedModule) (ws : List Wire) (it : Item) (part : Part)
    → AllByRecursion (λ (n : Module). Ordered 0 (ports_in n)) earl → EarlierFit earl er → Extends ws m.wires → NoOutput m ws
    → ItemIs (scene_in ports earl m) (map said ws) (item_of it) part → ItemWas ports earl er m ws it part
item_was ports earl er m ws (item.Wire l) part ordered fits extends none (declares line) = record { names = tt; part_is = refl; widths = λ agrees. tt; driven = λ agrees. tt }
item_was ports earl er m ws (item.Register l literal memory) part ordered fits extends none (keeps line text said_memory) =
    record { names = tt; part_is = refl; widths = λ agrees. tt; driven = λ agrees. tt }
item_was ports earl er m ws (item.Assign name r) part ordered fits extends none is = assign_item_was ports earl er m ws name r (right_of r) part extends none refl is
item_was ports earl er m ws (item.Edge edge) part ordered fits extends none (moves said_edge w domain initial a is) = edge_was ports earl er m ws edge w domain initial a extends is
item_was ports earl er m ws (item.Ram ram) part ordered fits extends none (remembers said_item w domain words inputs is) =
    ram_item_was ports earl er m ws ram w domain words inputs extends is
item_was ports earl er m ws (item.Use u) part ordered fits extends none (uses said_item used_id reads driven is) =
    use_item_was ports earl er m ws u used_id reads driven extends ordered fits is
