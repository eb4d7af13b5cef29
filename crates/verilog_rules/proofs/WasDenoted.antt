-- All checks hold of a text that denotes a net, and no text both denotes a net and has a fault.
use Rattle.std.proofs.Common.{◌≡◌, ℕ, suc, ◌+◌, ◌≤◌, true, List, [], ◌∷◌, ◌++◌, length, map, Option, Some, None, refl, sym, ap, ◌∙◌, subst, append_assoc, arith}
use Rattle.std.specs.Prelude.{codes, slice_get}
use Rattle.std.specs.List.{AllByRecursion, flat_map}
use Rattle.std.proofs.lemmas.List.{length-map, map-append}
use Rattle.std.proofs.lemmas.Slice.Eq.{bytes_eq-Decides}
use Rattle.chw_base.specs.declared.limits.TheConstants.{MODULES}
use Rattle.chw_clock.specs.declared.event.Ports.{Ports}
use Rattle.name_tables.specs.Names.{AreDistinct}
use Rattle.net_rules.specs.PortsHold.{PortsHold, RiseWithin}
use Rattle.net_rules.specs.WellFormed.{WellFormed}
use Rattle.net_rules.specs.declared.well_formed.NetCode.TheVariants.{Driver, Limit, Width}
use Rattle.netlist.specs.declared.net.Module.{Module as NetModule}
use Rattle.netlist.specs.declared.net.Net.{Net}
use Rattle.verilog_text.specs.Declared.{width_of}
use Rattle.verilog_text.specs.Denotes.{DenoteModules, Denotes}
use Rattle.verilog_text.specs.Grammar.{IsSource}
use Rattle.verilog_text.specs.Names.{top_name}
use Rattle.verilog_text.specs.Source.{Line as LineItem, ModuleItem, Source}
use Rattle.verilog_text.specs.Source.{modules_of as said_modules}
use Rattle.verilog_text.specs.Text.{clock_names}
use Rattle.verilog_text.specs.VText.{VText}
use Rattle.verilog_text.specs.VTokens.{NoVToken, Placed, VTokens}
use Rattle.verilog_text.proofs.OneNet.{ports_hold}
use Rattle.verilog_tree.specs.Marks.{IsTreeOf}
use Rattle.verilog_tree.specs.Sources.{bytes_of, module_of, source_of}
use Rattle.verilog_tree.specs.Syntax.{IsSyntaxFault, tokens_of}
use Rattle.verilog_tree.specs.Syntax.IsSyntaxFault.{early, wrong}
use Rattle.verilog_tree.specs.declared.module.Module.{Module}
use Rattle.verilog_tree.specs.declared.module.Port.{Port}
use Rattle.verilog_tree.specs.declared.module.Port.TheVariants.{Input, Output, Signal}
use Rattle.verilog_tree.specs.declared.module.Tree.{Tree}
use Rattle.verilog_tree.specs.declared.word.Line.{Line}
use Rattle.verilog_rules.specs.Declarations.{inputs_of, line_name, modules_of, outputs_of, port_of, ports_in, ports_of, signals_of}
use Rattle.verilog_rules.specs.DriverRules.{driver_checks}
use Rattle.verilog_rules.specs.Faults.{AllHold, IsTreeIn, IsVFault}
use Rattle.verilog_rules.specs.Faults.IsVFault.{no_driver, no_limit, no_name, no_syntax, no_token, no_width}
use Rattle.verilog_rules.specs.Limits.{limit_checks}
use Rattle.verilog_rules.specs.NameRules.{earlier_checks, is_port_name, last_checks, module_checks, name_checks, once_checks, port_form, texts}
use Rattle.verilog_rules.specs.Resolving.{resolved}
use Rattle.verilog_rules.specs.WidthRules.{width_checks}
use Rattle.verilog_rules.specs.declared.fault.VFault.{VFault}
use Rattle.verilog_rules.specs.declared.resolved.ResolvedModule.{ResolvedModule}
use Rattle.verilog_rules.proofs.Connections.{inputs_said, outputs_said}
use Rattle.verilog_rules.proofs.Denoting.{made}
use Rattle.verilog_rules.proofs.Distinct.{once_distinct, once_names}
use Rattle.verilog_rules.proofs.Formed.{ModuleFormed, tree_formed}
use Rattle.verilog_rules.proofs.Holding.{AllTrue, both_parts, hold}
use Rattle.verilog_rules.proofs.Items.{place_in}
use Rattle.verilog_rules.proofs.SignalsBack.{SignalsWere, signals_were}
use Rattle.verilog_rules.proofs.Texts.{AllChecked, module_texts}
use Rattle.verilog_rules.proofs.TopsBack.{PortsWere, ports_were}
use Rattle.verilog_rules.proofs.WasText.{DomainsFit, ModulesWere, drivers_hold, earlier_hold, limits_hold, modules_were, widths_hold}

same_ports : (x y : Ports) → x.domains ≡ y.domains → x.resets ≡ y.resets → x.inputs ≡ y.inputs → x.outputs ≡ y.outputs → x ≡ y
same_ports x y p q r s = λ i. record { domains = p i; resets = q i; inputs = r i; outputs = s i }

last_signals : (ports : Ports) (earl : List Module) (er : List ResolvedModule) (ms : List Module) (last : Module) → AllChecked ports earl er (ms ++ last ∷ [])
    → texts (signals_of (ports_in last)) ≡ clock_names ports.resets 0 ports.domains
last_signals ports earl er [] last all = all.1
last_signals ports earl er (m ∷ ms) last all = last_signals ports (earl ++ m ∷ []) (er ++ made ports earl m ∷ []) ms last all.2

forms_hold : (domains : List (List ℕ)) (ports : List Port) → AllByRecursion (λ (l : Line). is_port_name domains (codes "i_") (line_name l) ≡ true) (inputs_of ports)
    → AllByRecursion (λ (l : Line). is_port_name domains (codes "o_") (line_name l) ≡ true) (outputs_of ports) → AllTrue (flat_map (port_form domains) ports)
forms_hold domains [] ins outs = tt
forms_hold domains (Signal s ∷ ports) ins outs = forms_hold domains ports ins outs
forms_hold domains (Input l ∷ ports) ins outs = (ins.0, forms_hold domains ports ins.1 outs)
forms_hold domains (Output l ∷ ports) ins outs = (outs.0, forms_hold domains ports ins outs.1)

few_modules : (net : Net) → WellFormed net → length net.modules ≤ MODULES
few_modules net well = at net.modules refl
  where
    at : (modules : List NetModule) → net.modules ≡ modules → length net.modules ≤ MODULES
    at [] is = let none : length net.modules ≡ 0 = ap (λ (ms : List NetModule). length ms) is in subst (λ (n : ℕ). n ≤ MODULES) (sym none) (omega arith)
    at (m ∷ modules) is = (well.rules 0 m (ap (λ (ms : List NetModule). slice_get ms 0) is) Limit).modules refl

as_many : (ports : Ports) (earl ms : List ModuleItem) (nms : List NetModule) → DenoteModules ports earl ms nms → length ms ≡ length nms
as_many ports earl [] [] are = refl
as_many ports earl [] (n ∷ nms) are = absurd are
as_many ports earl (m ∷ ms) [] are = absurd are
as_many ports earl (m ∷ ms) (n ∷ nms) are = ap suc (as_many ports (earl ++ m ∷ []) ms nms are.1)

pub denoted_checked : (tree : Tree) (net : Net) → AllByRecursion ModuleFormed (modules_of tree) → Denotes (source_of tree) net → WellFormed net → AllHold tree
denoted_checked tree net formed d well =
    let holds : PortsHold net.ports = ports_hold net well in
    let domains : List (List ℕ) = net.ports.domains in
    let none : 0 + length domains ≡ length domains = omega arith in
    let fit : DomainsFit net.ports = record { uppers = holds.domains.names; rise = subst (λ (n : ℕ). RiseWithin 0 n net.ports.resets) (sym none) holds.domains.rise } in
    let all_modules : said_modules (source_of tree) ≡ map module_of (modules_of tree) = sym (map-append module_of tree.earlier (tree.last ∷ [])) in
    let denote : DenoteModules net.ports [] (map module_of (modules_of tree)) net.modules = subst (λ (ms : List ModuleItem). DenoteModules net.ports [] ms net.modules) all_modules d.modules in
    let distinct : AreDistinct (texts (map (λ (m : Module). m.name) (modules_of tree))) =
    subst AreDistinct (sym (module_texts (modules_of tree))) (subst (λ (ms : List ModuleItem). AreDistinct (map (λ (m : ModuleItem). m.name) ms)) all_modules d.names) in
    let new : AllTrue (once_checks [] (map (λ (m : Module). m.name) (modules_of tree))) =
    once_names [] (map (λ (m : Module). m.name) (modules_of tree)) (once_distinct (texts (map (λ (m : Module). m.name) (modules_of tree))) distinct) in
    let were : ModulesWere net.ports [] [] (modules_of tree) =
    modules_were net.ports [] [] (modules_of tree) net.modules fit formed tt tt new denote
    (λ i m found. record {
      agree = (well.rules i m found Width).cells;
      few = (well.rules i m found Limit).words;
      once = (well.rules i m found Driver).drivers;
      narrow = (well.rules i m found Limit).widths;
    })
    (λ i m found below. (well.rules i m found Driver).outputs below) in
    let last : List Port = ports_in tree.last in
    let signals : texts (signals_of last) ≡ clock_names net.ports.resets 0 domains = last_signals net.ports [] [] tree.earlier tree.last were.checked in
    let signals_so : SignalsWere 0 domains net.ports.resets (signals_of last) = signals_were 0 domains net.ports.resets (signals_of last) fit.uppers fit.rise signals in
    let ins : PortsWere domains (codes "i_") (inputs_of last) net.ports.inputs =
    ports_were domains 105 95 (inputs_of last) net.ports.inputs (λ rest. refl) holds.domains.names holds.domains.differ holds.inputs.0
    (sym (ap (map (λ (l : LineItem). l.name)) (inputs_said last)) ∙ d.inputs.names) (sym (ap (map (λ (l : LineItem). width_of l.range)) (inputs_said last)) ∙ d.inputs.widths) in
    let outs : PortsWere domains (codes "o_") (outputs_of last) net.ports.outputs =
    ports_were domains 111 95 (outputs_of last) net.ports.outputs (λ rest. refl) holds.domains.names holds.domains.differ holds.outputs.0
    (sym (ap (map (λ (l : LineItem). l.name)) (outputs_said last)) ∙ d.outputs.names) (sym (ap (map (λ (l : LineItem). width_of l.range)) (outputs_said last)) ∙ d.outputs.widths) in
    let ports_eq : ports_of tree ≡ net.ports =
    same_ports (ports_of tree) net.ports signals_so.domains_are signals_so.resets_are
    (ap (λ (ds : List (List ℕ)). map (port_of ds) (inputs_of last)) signals_so.domains_are ∙ ins.ports_are)
    (ap (λ (ds : List (List ℕ)). map (port_of ds) (outputs_of last)) signals_so.domains_are ∙ outs.ports_are) in
    let ports : Ports = ports_of tree in
    let checked : AllChecked ports [] [] (modules_of tree) = subst (λ (p : Ports). AllChecked p [] [] (modules_of tree)) (sym ports_eq) were.checked in
    let its_signals : texts (signals_of last) ≡ clock_names ports.resets 0 ports.domains = last_signals ports [] [] tree.earlier tree.last checked in
    let names = earlier_hold ports tree.last [] [] tree.earlier checked its_signals in
    let forms : AllTrue (flat_map (port_form ports.domains) last) = subst (λ (p : Ports). AllTrue (flat_map (port_form p.domains) last)) (sym ports_eq) (forms_hold domains last ins.forms outs.forms) in
    let many : length (modules_of tree) ≡ length net.modules = sym (length-map (modules_of tree) module_of) ∙ as_many net.ports [] (map module_of (modules_of tree)) net.modules denote in
    let few : 0 + length (modules_of tree) ≤ MODULES = at_most (length (modules_of tree)) (length net.modules) many (few_modules net well) in
    record {
      are_wide = record {
        named = record {
          limits = hold (limit_checks tree) (limits_hold ports 0 [] [] (modules_of tree) checked few);
          names = hold (name_checks tree) (both_parts (earlier_checks ports tree.last [] tree.earlier) (last_checks ports tree.earlier tree.last) names.0 (
            (bytes_eq-Decides (bytes_of tree.last.name) top_name).1 d.last,
            both_parts (flat_map (port_form ports.domains) last) (module_checks (place_in ports tree.earlier) tree.last) forms names.1,
          ));
        };
        widths = hold (width_checks (resolved tree)) (widths_hold ports [] [] (modules_of tree) checked);
      };
      drivers = hold (driver_checks (resolved tree)) (drivers_hold ports [] [] (modules_of tree) checked were.outputs);
    }
  where
    at_most : (a b : ℕ) → a ≡ b → b ≤ MODULES → 0 + a ≤ MODULES
    at_most a b same below = omega arith

-- TEXTS

-- the laws of texts and trees
abbrev pub OneSplitting : Type 0
OneSplitting = (text : List ℕ) (a b : List Placed) → VTokens text a → VTokens text b → a ≡ b

abbrev pub OneSource : Type 0
OneSource = (tokens : List Placed) (a b : Source) → IsSource tokens a → IsSource tokens b → a ≡ b

abbrev pub AreSources : Type 0
AreSources = (tokens : List Placed) (tree : Tree) → IsTreeOf tokens tree → IsSource tokens (source_of tree)

abbrev pub NoPlace : Type 0
NoPlace = (text : List ℕ) (tokens : List Placed) (at : ℕ) → VTokens text tokens → NoVToken text at → ⊥

pub denoted_text : OneSplitting → OneSource → AreSources → (text : List ℕ) (net : Net) (tree : Tree) → VText text net → IsTreeIn text tree → AllHold tree
denoted_text one_splitting one_source sources text net tree v read =
    let tokens : v.tokens ≡ read.tokens = one_splitting text v.tokens read.tokens v.splits read.splits in
    let source : v.source ≡ source_of tree =
    one_source read.tokens v.source (source_of tree) (subst (λ (ts : List Placed). IsSource ts v.source) tokens v.reads) (sources read.tokens tree read.reads) in
    denoted_checked tree net (tree_formed text read.tokens tree read.splits read.reads) (subst (λ (s : Source). Denotes s net) source v.denotes) v.well_formed

source_has_no_fault : (length : ℕ) (tokens : List Placed) (at : ℕ) (source : Source) → IsSource tokens source → IsSyntaxFault length tokens at → ⊥
source_has_no_fault length tokens at source is (wrong before token after split begins never same) =
    never (
      source,
      tokens_of after,
      sym is ∙ ap tokens_of split
          ∙ ap tokens_of (sym (append_assoc before (token ∷ []) after)) ∙ map-append (λ (t : Placed). t.token) (before ++ token ∷ []) after,
    )
source_has_no_fault length tokens at source is (early begins never same) = never source is

none_not_some : {at : ℕ} {o : Option ℕ} → o ≡ None → o ≡ Some at → ⊥
none_not_some first second = cc

pub not_both : OneSplitting → OneSource → AreSources → NoPlace → (text : List ℕ) (net : Net) (fault : VFault) → VText text net → IsVFault text fault → ⊥
not_both one_splitting one_source sources no_place text net fault v (no_token at none) = no_place text v.tokens at v.splits none
not_both one_splitting one_source sources no_place text net fault v (no_syntax tokens at splits is) =
    let same : v.tokens ≡ tokens = one_splitting text v.tokens tokens v.splits splits in
    source_has_no_fault (length text) tokens at v.source (subst (λ (ts : List Placed). IsSource ts v.source) same v.reads) is
not_both one_splitting one_source sources no_place text net fault v (no_limit tree at read broken) =
    none_not_some (denoted_text one_splitting one_source sources text net tree v read).are_wide.named.limits broken
not_both one_splitting one_source sources no_place text net fault v (no_name tree at read limits broken) =
    none_not_some (denoted_text one_splitting one_source sources text net tree v read).are_wide.named.names broken
not_both one_splitting one_source sources no_place text net fault v (no_width tree at read named broken) =
    none_not_some (denoted_text one_splitting one_source sources text net tree v read).are_wide.widths broken
not_both one_splitting one_source sources no_place text net fault v (no_driver tree at read are_wide broken) =
    none_not_some (denoted_text one_splitting one_source sources text net tree v read).drivers broken
