-- Uses of modules.
use Rattle.std.proofs.Common.{◌≡◌, ℕ, zero, suc, ◌+◌, Bool, true, false, cond, List, [], ◌∷◌, ◌++◌, length, map, Option, Some, None, refl, sym, ap, ◌∙◌, subst, arith}
use Rattle.std.specs.Prelude.{slice_get, option_map}
use Rattle.std.specs.Option.{unwrap_or}
use Rattle.std.specs.List.{AllByRecursion}
use Rattle.std.specs.Str.{bytes_eq}
use Rattle.std.proofs.lemmas.Bool.{false≢true}
use Rattle.std.proofs.lemmas.List.{length-map}
use Rattle.std.proofs.lemmas.Option.{same_Some}
use Rattle.chw_base.specs.declared.index.ModId.{ModId}
use Rattle.chw_base.specs.declared.index.WireId.{WireId}
use Rattle.chw_clock.specs.declared.event.Ports.{Ports}
use Rattle.name_tables.specs.Names.{place_of}
use Rattle.verilog_text.specs.Declared.{AreNamesOf, IsOfKind, port_name}
use Rattle.verilog_text.specs.Declared.{inputs_of as said_inputs, signals_of as said_signals}
use Rattle.verilog_text.specs.Declared.Kind.{a_wire}
use Rattle.verilog_text.specs.Denotes.{IsUse, Scene}
use Rattle.verilog_text.specs.Source.{Connection as ConnectionItem, Line as LineItem, ModuleItem, all_of}
use Rattle.verilog_tree.specs.Sources.{bytes_of, connection_of, line_of, module_of, use_of}
use Rattle.verilog_tree.specs.declared.item.Connection.{Connection}
use Rattle.verilog_tree.specs.declared.item.Use.{Use}
use Rattle.verilog_tree.specs.declared.module.Module.{Module}
use Rattle.verilog_tree.specs.declared.module.Port.{Port}
use Rattle.verilog_tree.specs.declared.module.Port.TheVariants.{Input, Output, Signal}
use Rattle.verilog_rules.specs.Declarations.{inputs_of, outputs_of, port_word, ports_in, signals_of}
use Rattle.verilog_rules.specs.NameRules.{module_named, module_names, use_checks, used_checks}
use Rattle.verilog_rules.specs.NetOf.{wire}
use Rattle.verilog_rules.specs.Resolving.{drives_of, ports_named, reads_of}
use Rattle.verilog_rules.specs.declared.resolved.Wire.{Wire}
use Rattle.verilog_rules.proofs.Connected.{Connected, connected}
use Rattle.verilog_rules.proofs.Connections.{Joined, NoInput, Ordered, driven_words, inputs_said, joined, names_of_ports, plain_kinds, read_words, signals_said}
use Rattle.verilog_rules.proofs.Holding.{AllTrue}
use Rattle.verilog_rules.proofs.Operands.{said}
use Rattle.verilog_rules.proofs.Wires.{Extends, each_at}

-- the module of a name is that at its place
pub module_placed : (earl : List Module) (name : List ℕ) (m : Module) → module_named earl name ≡ Some m
    → (k : ℕ) × (place_of (module_names earl) name ≡ Some k) × (slice_get earl k ≡ Some m)
module_placed [] name m is = absurd (cc)
module_placed (n ∷ earl) name m is = by_case (bytes_eq name (bytes_of n.name)) refl is (module_placed earl name m)
  where
    by_case : (b : Bool) → bytes_eq name (bytes_of n.name) ≡ b → cond b (Some n) (module_named earl name) ≡ Some m
        → (module_named earl name ≡ Some m → (k : ℕ) × (place_of (module_names earl) name ≡ Some k) × (slice_get earl k ≡ Some m))
        → (k : ℕ) × (place_of (module_names (n ∷ earl)) name ≡ Some k) × (slice_get (n ∷ earl) k ≡ Some m)
    by_case true first at later = (0, rw first refl, at)
    by_case false first at later =
        let more = later at in
        (suc more.0, rw first (rw more.1 (ap Some (omega arith))), more.2)

pub placed_module : (earl : List Module) (name : List ℕ) (k : ℕ) (m : Module) → place_of (module_names earl) name ≡ Some k → slice_get earl k ≡ Some m
    → module_named earl name ≡ Some m
placed_module [] name k m placed found = absurd (cc)
placed_module (n ∷ earl) name k m placed found = by_case (bytes_eq name (bytes_of n.name)) refl (place_of (module_names earl) name) refl placed (λ p. placed_module earl name p m)
  where
    by_case : (b : Bool) → bytes_eq name (bytes_of n.name) ≡ b → (o : Option ℕ) → place_of (module_names earl) name ≡ o
        → cond b (Some 0) (option_map (λ (p : ℕ). p + 1) o) ≡ Some k
        → ((p : ℕ) → place_of (module_names earl) name ≡ Some p → slice_get earl p ≡ Some m → module_named earl name ≡ Some m)
        → cond b (Some n) (module_named earl name) ≡ Some m
    by_case true first o o_is at later =
        let zeroth : 0 ≡ k = same_Some 0 k at in
        subst (λ (j : ℕ). slice_get (n ∷ earl) j ≡ Some m) (sym zeroth) found
    by_case false first None o_is at later = absurd (cc)
    by_case false first (Some p) o_is at later =
        let next : k ≡ suc p = sym (same_Some (p + 1) k at) ∙ omega arith in
        later p o_is (subst (λ (j : ℕ). slice_get (n ∷ earl) j ≡ Some m) next found)

pub names_said : (earl : List Module) → map (λ (m : ModuleItem). m.name) (map module_of earl) ≡ module_names earl
names_said [] = refl
names_said (m ∷ earl) = ap (λ (rest : List (List ℕ)). bytes_of m.name ∷ rest) (names_said earl)

pub got_modules : (earl : List Module) (k : ℕ) → slice_get (map module_of earl) k ≡ option_map module_of (slice_get earl k)
got_modules [] k = refl
got_modules (m ∷ earl) zero = refl
got_modules (m ∷ earl) (suc k) = got_modules earl k

-- the number of the module of a name
abbrev pub used_number : List Module → List ℕ → ModId
used_number earl name = record { number = unwrap_or (place_of (module_names earl) name) 0 }

pub reads_length : (ws : List Wire) (ports : List Port) (cs : List Connection) → length (reads_of ws ports cs) ≡ length (read_words ports cs)
reads_length ws [] cs = refl
reads_length ws (Signal s ∷ ports) [] = refl
reads_length ws (Input l ∷ ports) [] = refl
reads_length ws (Output l ∷ ports) [] = refl
reads_length ws (Signal s ∷ ports) (c ∷ cs) = reads_length ws ports cs
reads_length ws (Input l ∷ ports) (c ∷ cs) = ap suc (reads_length ws ports cs)
reads_length ws (Output l ∷ ports) (c ∷ cs) = reads_length ws ports cs

pub drives_length : (ws : List Wire) (ports : List Port) (cs : List Connection) → length (drives_of ws ports cs) ≡ length (driven_words ports cs)
drives_length ws [] cs = refl
drives_length ws (Signal s ∷ ports) [] = refl
drives_length ws (Input l ∷ ports) [] = refl
drives_length ws (Output l ∷ ports) [] = refl
drives_length ws (Signal s ∷ ports) (c ∷ cs) = drives_length ws ports cs
drives_length ws (Input l ∷ ports) (c ∷ cs) = drives_length ws ports cs
drives_length ws (Output l ∷ ports) (c ∷ cs) = ap suc (drives_length ws ports cs)

-- the ports of the used module, and what is read and driven
abbrev pub used_ports : List Module → Use → List Port
used_ports earl u = ports_named (module_named earl (bytes_of u.used))

abbrev pub connections : Use → List Connection
connections u = u.first ∷ u.others

-- what holds of a use that passes its checks
pub record UseIs (scene : Scene) (earl : List Module) (ws : List Wire) (u : Use) : Type 0 where
  pub is : IsUse scene (map said ws) (use_of u) (used_number earl (bytes_of u.used)) (map wire (reads_of ws (used_ports earl u) (connections u)))
      (map wire (drives_of ws (used_ports earl u) (connections u)))
  pub used : Module
  pub found : slice_get earl (used_number earl (bytes_of u.used)).number ≡ Some used
  pub inputs : length (reads_of ws (used_ports earl u) (connections u)) ≡ length (inputs_of (ports_in used))
  pub outputs : length (drives_of ws (used_ports earl u) (connections u)) ≡ length (outputs_of (ports_in used))

map_map_ports : (cs : List Connection) → map (λ (c : ConnectionItem). c.port) (map connection_of cs) ≡ map (λ (c : Connection). bytes_of c.port) cs
map_map_ports [] = refl
map_map_ports (c ∷ cs) = ap (λ (rest : List (List ℕ)). bytes_of c.port ∷ rest) (map_map_ports cs)

map_map_wires : (cs : List Connection) → map (λ (c : ConnectionItem). c.wire) (map connection_of cs) ≡ map (λ (c : Connection). bytes_of c.wire) cs
map_map_wires [] = refl
map_map_wires (c ∷ cs) = ap (λ (rest : List (List ℕ)). bytes_of c.wire ∷ rest) (map_map_wires cs)

pub use_is : (ports : Ports) (outputs : List LineItem) (earl : List Module) (ws full : List Wire) (u : Use) → Extends ws full
    → AllByRecursion (λ (m : Module). Ordered 0 (ports_in m)) earl → AllTrue (use_checks earl ws u)
    → AllByRecursion (NoInput full) (drives_of ws (used_ports earl u) (connections u))
    → UseIs (record { ports = ports; outputs = outputs; earlier = map module_of earl }) earl ws u
use_is ports outputs earl ws full u extends ordered all none = by_case (module_named earl (bytes_of u.used)) refl all
  where
    by_case : (o : Option Module) → module_named earl (bytes_of u.used) ≡ o → AllTrue (used_checks ws u o) → UseIs (record { ports = ports; outputs = outputs; earlier = map module_of earl }) earl ws u
    by_case None is checks = absurd (false≢true checks.0)
    by_case (Some m) is checks =
        let placed = module_placed earl (bytes_of u.used) m is in
        let number : (used_number earl (bytes_of u.used)).number ≡ placed.0 = ap (λ (o : Option ℕ). unwrap_or o 0) placed.1 in
        let its_ports : used_ports earl u ≡ ports_in m = ap ports_named is in
        let there : slice_get earl (used_number earl (bytes_of u.used)).number ≡ Some m = subst (λ (k : ℕ). slice_get earl k ≡ Some m) (sym number) placed.2 in
        let m_ordered : Ordered 0 (ports_in m) = each_at (λ (m : Module). Ordered 0 (ports_in m)) earl placed.0 m ordered placed.2 in
        let joins : Joined ws (ports_in m) (connections u) = joined ws u.close 0 (ports_in m) (connections u) m_ordered checks in
        let no_inputs : AllByRecursion (NoInput full) (drives_of ws (ports_in m) (connections u)) =
        subst (λ (ps : List Port). AllByRecursion (NoInput full) (drives_of ws ps (connections u))) its_ports none in
        let kinds = plain_kinds ws full u.close (ports_in m) (connections u) extends checks no_inputs in
        record {
          is = record {
            named = subst (λ (ns : List (List ℕ)). place_of ns (bytes_of u.used) ≡ Some (used_number earl (bytes_of u.used)).number) (sym (names_said earl))
                (placed.1 ∙ ap Some (sym number));
            used = module_of m;
            found = got_modules earl (used_number earl (bytes_of u.used)).number ∙ ap (option_map module_of) there;
            ports = map_map_ports (connections u) ∙ joins.ports_are ∙ sym (names_of_ports (ports_in m));
            read_names = map bytes_of (read_words (ports_in m) (connections u));
            driven_names = map bytes_of (driven_words (ports_in m) (connections u));
            joined = map_map_wires (connections u) ∙ joins.wires_are
                ∙ ap (λ (ss : List (List ℕ)). ss ++ (map bytes_of (read_words (ports_in m) (connections u)) ++ map bytes_of (driven_words (ports_in m) (connections u)))) (sym (signals_said (ports_in m)));
            inputs = length-map (read_words (ports_in m) (connections u)) bytes_of ∙ joins.inputs
                ∙ sym (ap (λ (ls : List LineItem). length ls) (inputs_said (ports_in m)) ∙ length-map (inputs_of (ports_in m)) line_of);
            reads_are = subst (λ (ps : List Port). AreNamesOf (map said ws) (map bytes_of (read_words (ports_in m) (connections u))) (map wire (reads_of ws ps (connections u)))) (sym its_ports) joins.reads;
            drives_are = subst (λ (ps : List Port). AreNamesOf (map said ws) (map bytes_of (driven_words (ports_in m) (connections u))) (map wire (drives_of ws ps (connections u)))) (sym its_ports) joins.drives;
            kinds = subst (λ (ps : List Port). AllByRecursion (λ (w : WireId). IsOfKind (map said ws) w a_wire) (map wire (drives_of ws ps (connections u)))) (sym its_ports) kinds;
          };
          used = m;
          found = there;
          inputs = subst (λ (ps : List Port). length (reads_of ws ps (connections u)) ≡ length (inputs_of (ports_in m))) (sym its_ports) (reads_length ws (ports_in m) (connections u) ∙ joins.inputs);
          outputs = subst (λ (ps : List Port). length (drives_of ws ps (connections u)) ≡ length (outputs_of (ports_in m))) (sym its_ports) (drives_length ws (ports_in m) (connections u) ∙ joins.outputs);
        }

-- BACK

-- what a use was made of that stands in a text
pub record UseWas (earl : List Module) (ws : List Wire) (u : Use) (number : ModId) (reads drives : List WireId) : Type 0 where
  pub names : AllTrue (use_checks earl ws u)
  pub number_is : number ≡ used_number earl (bytes_of u.used)
  pub reads_are : reads ≡ map wire (reads_of ws (used_ports earl u) (connections u))
  pub drives_are : drives ≡ map wire (drives_of ws (used_ports earl u) (connections u))
  pub used : Module
  pub found : slice_get earl number.number ≡ Some used

got_back : (earl : List Module) (k : ℕ) (used : ModuleItem) → slice_get (map module_of earl) k ≡ Some used → (m : Module) × (slice_get earl k ≡ Some m) × (module_of m ≡ used)
got_back [] k used found = absurd (cc)
got_back (m ∷ earl) zero used found = (m, refl, same_Some (module_of m) used found)
got_back (m ∷ earl) (suc k) used found = got_back earl k used found

pub use_was : (ports : Ports) (outputs : List LineItem) (earl : List Module) (ws : List Wire) (u : Use) (number : ModId) (reads drives : List WireId)
    → AllByRecursion (λ (m : Module). Ordered 0 (ports_in m)) earl
    → IsUse (record { ports = ports; outputs = outputs; earlier = map module_of earl }) (map said ws) (use_of u) number reads drives
    → UseWas earl ws u number reads drives
use_was ports outputs earl ws u number reads drives ordered is =
    let back = got_back earl number.number is.used is.found in
    let m : Module = back.0 in
    let placed : place_of (module_names earl) (bytes_of u.used) ≡ Some number.number = rw names_said at is.named in
    let named : module_named earl (bytes_of u.used) ≡ Some m = placed_module earl (bytes_of u.used) number.number m placed back.1 in
    let its_ports : used_ports earl u ≡ ports_in m = ap ports_named named in
    let m_ordered : Ordered 0 (ports_in m) = each_at (λ (m : Module). Ordered 0 (ports_in m)) earl number.number m ordered back.1 in
    let ports_are : map (λ (c : Connection). bytes_of c.port) (connections u) ≡ map (λ (p : Port). bytes_of (port_word p)) (ports_in m) =
    sym (map_map_ports (connections u)) ∙ is.ports ∙ sym (ap (λ (n : ModuleItem). map port_name (all_of n.ports)) back.2) ∙ names_of_ports (ports_in m) in
    let signals_are : said_signals (all_of is.used.ports) ≡ map bytes_of (signals_of (ports_in m)) =
    sym (ap (λ (n : ModuleItem). said_signals (all_of n.ports)) back.2) ∙ signals_said (ports_in m) in
    let wires_are : map (λ (c : Connection). bytes_of c.wire) (connections u) ≡ map bytes_of (signals_of (ports_in m)) ++ (is.read_names ++ is.driven_names) =
    sym (map_map_wires (connections u)) ∙ is.joined ∙ ap (λ (ss : List (List ℕ)). ss ++ (is.read_names ++ is.driven_names)) signals_are in
    let inputs_are : length is.read_names ≡ length (inputs_of (ports_in m)) =
    is.inputs ∙ sym (ap (λ (n : ModuleItem). length (said_inputs (all_of n.ports))) back.2) ∙ ap (λ (ls : List LineItem). length ls) (inputs_said (ports_in m))
    ∙ length-map (inputs_of (ports_in m)) line_of in
    let so : Connected ws u.close (ports_in m) (connections u) reads drives =
    connected ws u.close 0 (ports_in m) (connections u) is.read_names is.driven_names reads drives m_ordered ports_are wires_are inputs_are is.reads_are is.drives_are is.kinds in
    let numbers : number.number ≡ (used_number earl (bytes_of u.used)).number = sym (ap (λ (o : Option ℕ). unwrap_or o 0) placed) in
    record {
      names = subst (λ (o : Option Module). AllTrue (used_checks ws u o)) (sym named) so.checks;
      number_is = λ i. record { number = numbers i };
      reads_are = so.reads_are ∙ ap (λ (ps : List Port). map wire (reads_of ws ps (connections u))) (sym its_ports);
      drives_are = so.drives_are ∙ ap (λ (ps : List Port). map wire (drives_of ws ps (connections u))) (sym its_ports);
      used = m;
      found = back.1;
    }
