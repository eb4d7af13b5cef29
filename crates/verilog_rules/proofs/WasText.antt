-- A text that denotes a net passes all checks.
use Rattle.std.proofs.Common.{◌≡◌, ℕ, suc, ◌+◌, ◌<◌, ◌≤◌, true, not, List, [], ◌∷◌, ◌++◌, length, map, take, Some, None, refl, sym, ap, ◌∙◌, subst, append_assoc, arith}
use Rattle.std.specs.Prelude.{slice_get}
use Rattle.std.specs.List.{AllByRecursion, flat_map}
use Rattle.std.specs.Cmp.Lexicographic.{pointwise}
use Rattle.std.specs.Str.{bytes_eq}
use Rattle.std.proofs.lemmas.Bool.{and_from, lt-ltb, ne_eqb, not-true}
use Rattle.std.proofs.lemmas.List.{append-nil, length-map, map-append}
use Rattle.std.proofs.lemmas.Slice.Eq.{bytes_eq-Decides}
use Rattle.chw_base.specs.Names.{IsUpper}
use Rattle.chw_base.specs.declared.limits.TheConstants.{MODULES}
use Rattle.chw_clock.specs.declared.event.Ports.{Ports}
use Rattle.name_tables.specs.Names.{is_among}
use Rattle.net_rules.specs.PortsHold.{RiseWithin}
use Rattle.netlist.specs.declared.net.Module.{Module as NetModule}
use Rattle.verilog_text.specs.Denotes.{DenoteModules, DenotesModule}
use Rattle.verilog_text.specs.Source.{Line as LineItem, ModuleItem}
use Rattle.verilog_text.specs.Text.{clock_names}
use Rattle.verilog_tree.specs.Sources.{bytes_of, line_of, module_of}
use Rattle.verilog_tree.specs.declared.module.Module.{Module}
use Rattle.verilog_tree.specs.declared.word.Line.{Line}
use Rattle.verilog_rules.specs.Checks.{Check}
use Rattle.verilog_rules.specs.Declarations.{declared_words, input_wires, line_name, outputs_of, ports_in, signals_of, wires_of}
use Rattle.verilog_rules.specs.DriverRules.{all_driven, all_shown, driven_checks, drivers_from, drives, module_driver_checks, own_names, shown_checks, shows, undriven_checks}
use Rattle.verilog_rules.specs.Limits.{item_limits, limits_from, module_limits, port_limits}
use Rattle.verilog_rules.specs.NameRules.{earlier_checks, items_checks, module_checks, module_names, once_checks, order_checks, signal_checks, texts}
use Rattle.verilog_rules.specs.NetOf.{net_module}
use Rattle.verilog_rules.specs.Resolving.{resolved_modules}
use Rattle.verilog_rules.specs.WidthRules.{driver_width_checks, module_width_checks, range_check, widths_from, wire_checks}
use Rattle.verilog_rules.specs.declared.resolved.ResolvedModule.{ResolvedModule}
use Rattle.verilog_rules.proofs.Connections.{Ordered, outputs_said, signals_said}
use Rattle.verilog_rules.proofs.Denoting.{ModuleChecked, made}
use Rattle.verilog_rules.proofs.Formed.{ModuleFormed}
use Rattle.verilog_rules.proofs.Holding.{AllTrue, both_parts}
use Rattle.verilog_rules.proofs.Items.{place_in}
use Rattle.verilog_rules.proofs.ModulesWell.{Fits, earlier_fit, fits_more, module_fits}
use Rattle.verilog_rules.proofs.Parts.{all_both}
use Rattle.verilog_rules.proofs.SignalsBack.{SignalsWere, signals_were}
use Rattle.verilog_rules.proofs.Texts.{AllChecked}
use Rattle.verilog_rules.proofs.WasModule.{ModuleWas, NetWell, module_was}

abbrev AreOrdered : List Module → Type 0
AreOrdered earl = AllByRecursion (λ (n : Module). Ordered 0 (ports_in n)) earl

-- MODULES

-- what is known of the domains of the net
pub record DomainsFit (ports : Ports) : Type 0 where
  pub uppers : AllByRecursion IsUpper ports.domains
  pub rise : RiseWithin 0 (0 + length ports.domains) ports.resets

abbrev pub Outputs : List Module → Type 0
Outputs [] = Unit {0}
Outputs (m ∷ []) = Unit {0}
Outputs (m ∷ n ∷ ms) = (1 ≤ length (outputs_of (ports_in m))) × Outputs (n ∷ ms)

pub record ModulesWere (ports : Ports) (earl : List Module) (er : List ResolvedModule) (ms : List Module) : Type 0 where
  pub checked : AllChecked ports earl er ms
  pub outputs : Outputs ms

pub modules_were : (ports : Ports) (earl : List Module) (er : List ResolvedModule) (ms : List Module) (nms : List NetModule) → DomainsFit ports → AllByRecursion ModuleFormed ms → AreOrdered earl → Fits earl er
    → AllTrue (once_checks (module_names earl) (map (λ (m : Module). m.name) ms))
    → DenoteModules ports (map module_of earl) (map module_of ms) nms
    → ((i : ℕ) (m : NetModule) → slice_get nms i ≡ Some m → NetWell (map net_module er ++ take i nms) m)
    → ((i : ℕ) (m : NetModule) → slice_get nms i ≡ Some m → i + 1 < length nms → 1 ≤ length m.outputs)
    → ModulesWere ports earl er ms
modules_were ports earl er [] [] domains formed ordered fits new denote well outs = record { checked = tt; outputs = tt }
modules_were ports earl er [] (nm ∷ nms) domains formed ordered fits new denote well outs = absurd denote
modules_were ports earl er (mt ∷ ms) [] domains formed ordered fits new denote well outs = absurd denote
modules_were ports earl er (mt ∷ ms) (nm ∷ nms) domains formed ordered fits new denote well outs =
    let d : DenotesModule ports (map module_of earl) (module_of mt) nm = denote.0 in
    let signals : texts (signals_of (ports_in mt)) ≡ clock_names ports.resets 0 ports.domains = sym (signals_said (ports_in mt)) ∙ d.signals in
    let were : SignalsWere 0 ports.domains ports.resets (signals_of (ports_in mt)) = signals_were 0 ports.domains ports.resets (signals_of (ports_in mt)) domains.uppers domains.rise signals in
    let here : NetWell (map net_module er) nm = subst (λ (e : List NetModule). NetWell e nm) (append-nil (map net_module er)) (well 0 nm refl) in
    let was : ModuleWas ports earl er mt nm =
    module_was ports earl er mt nm formed.0 ordered (earlier_fit earl er fits) (not-true (is_among (module_names earl) (bytes_of mt.name)) new.0) (were.checks None) d here in
    let new_fits = (module_fits ports earl er mt was.checked (earlier_fit earl er fits)).1 in
    let names : module_names earl ++ bytes_of mt.name ∷ [] ≡ module_names (earl ++ mt ∷ []) = sym (map-append (λ (m : Module). bytes_of m.name) earl (mt ∷ [])) in
    let moved : map net_module er ++ nm ∷ [] ≡ map net_module (er ++ made ports earl mt ∷ []) =
    ap (λ (x : NetModule). map net_module er ++ x ∷ []) was.net_is ∙ sym (map-append net_module er (made ports earl mt ∷ [])) in
    let rest : ModulesWere ports (earl ++ mt ∷ []) (er ++ made ports earl mt ∷ []) ms =
    modules_were ports (earl ++ mt ∷ []) (er ++ made ports earl mt ∷ []) ms nms domains formed.1
    (all_both (λ (n : Module). Ordered 0 (ports_in n)) earl (mt ∷ []) ordered (was.checked.order, tt)) (fits_more earl er mt (made ports earl mt) fits new_fits)
    (subst (λ (ns : List (List ℕ)). AllTrue (once_checks ns (map (λ (m : Module). m.name) ms))) names new.1)
    (subst (λ (e : List ModuleItem). DenoteModules ports e (map module_of ms) nms) (sym (map-append module_of earl (mt ∷ []))) denote.1)
    (λ i m found. subst (λ (e : List NetModule). NetWell (e ++ take i nms) m) moved
    (subst (λ (e : List NetModule). NetWell e m) (sym (append_assoc (map net_module er) (nm ∷ []) (take i nms))) (well (suc i) m found)))
    (λ i m found below. outs (suc i) m found (longer i (length nms) below)) in
    let out_count : length nm.outputs ≡ length (outputs_of (ports_in mt)) = d.outputs ∙ ap (λ (ls : List LineItem). length ls) (outputs_said (ports_in mt)) ∙ length-map (outputs_of (ports_in mt)) line_of in
    record {
      checked = (was.checked, signals, rest.checked);
      outputs = more_outputs ms nms (subst (λ (n : ℕ). 0 + 1 < suc (length nms) → 1 ≤ n) out_count (λ below. outs 0 nm refl below)) denote.1 rest.outputs;
    }
  where
    longer : (i n : ℕ) → i + 1 < n → suc i + 1 < suc n
    longer i n below = omega arith

    more_outputs : (ms : List Module) (nms : List NetModule) → (0 + 1 < suc (length nms) → 1 ≤ length (outputs_of (ports_in mt)))
        → DenoteModules ports (map module_of earl ++ module_of mt ∷ []) (map module_of ms) nms → Outputs ms → Outputs (mt ∷ ms)
    more_outputs [] nms some are outs = tt
    more_outputs (n ∷ ms) [] some are outs = absurd are
    more_outputs (n ∷ ms) (x ∷ nms) some are outs = (some (omega arith), outs)

-- LISTS OF CHECKS

pub limits_hold : (ports : Ports) (k : ℕ) (earl : List Module) (er : List ResolvedModule) (ms : List Module) → AllChecked ports earl er ms → k + length ms ≤ MODULES → AllTrue (limits_from k ms)
limits_hold ports k earl er [] all below = tt
limits_hold ports k earl er (m ∷ ms) all below =
    both_parts (module_limits k m) (limits_from (k + 1) ms)
    (lt-ltb k MODULES (omega arith), both_parts (flat_map port_limits (ports_in m)) (flat_map item_limits m.items) all.0.port_limits_hold all.0.item_limits_hold)
    (limits_hold ports (k + 1) (earl ++ m ∷ []) (er ++ made ports earl m ∷ []) ms all.2 (omega arith))

module_names_hold : (ports : Ports) (earl : List Module) (er : List ResolvedModule) (m : Module) → ModuleChecked ports earl er m → AllTrue (module_checks (place_in ports earl) m)
module_names_hold ports earl er m c =
    let signal_list : List Check = signal_checks None (signals_of (ports_in m)) in
    let once_list : List Check = once_checks [] (declared_words m) in
    let item_list : List Check = items_checks (place_in ports earl) (map line_name (outputs_of (ports_in m))) (input_wires m) m.items in (
      ap not c.new,
      both_parts (order_checks 0 (ports_in m)) (signal_list ++ (once_list ++ item_list)) c.order
          (both_parts signal_list (once_list ++ item_list) c.signals (both_parts once_list item_list c.once c.items)),
    )

names_equal : (xs ys : List (List ℕ)) → xs ≡ ys → pointwise bytes_eq xs ys ≡ true
names_equal [] [] same = refl
names_equal [] (y ∷ ys) same = absurd (cc)
names_equal (x ∷ xs) [] same = absurd (cc)
names_equal (x ∷ xs) (y ∷ ys) same =
    let first : x ≡ y = cc in
    let rest : xs ≡ ys = cc in
    and_from (bytes_eq x y) (pointwise bytes_eq xs ys) ((bytes_eq-Decides x y).1 first) (names_equal xs ys rest)

pub earlier_hold : (ports : Ports) (last : Module) (earl : List Module) (er : List ResolvedModule) (ms : List Module) → AllChecked ports earl er (ms ++ last ∷ [])
    → texts (signals_of (ports_in last)) ≡ clock_names ports.resets 0 ports.domains
    → AllTrue (earlier_checks ports last earl ms) × AllTrue (module_checks (place_in ports (earl ++ ms)) last)
earlier_hold ports last earl er [] all signals =
    (tt, subst (λ (e : List Module). AllTrue (module_checks (place_in ports e) last)) (sym (append-nil earl)) (module_names_hold ports earl er last all.0))
earlier_hold ports last earl er (m ∷ ms) all signals =
    let rest = earlier_hold ports last (earl ++ m ∷ []) (er ++ made ports earl m ∷ []) ms all.2 signals in (
      (
        names_equal (texts (signals_of (ports_in m))) (texts (signals_of (ports_in last))) (all.1 ∙ sym signals),
        both_parts (module_checks (place_in ports earl) m) (earlier_checks ports last (earl ++ m ∷ []) ms) (module_names_hold ports earl er m all.0) rest.0,
      ),
      subst (λ (e : List Module). AllTrue (module_checks (place_in ports e) last)) (append_assoc earl (m ∷ []) ms) rest.1,
    )

pub widths_hold : (ports : Ports) (earl : List Module) (er : List ResolvedModule) (ms : List Module) → AllChecked ports earl er ms → AllTrue (widths_from er (resolved_modules ports earl ms))
widths_hold ports earl er [] all = tt
widths_hold ports earl er (m ∷ ms) all =
    let x : ResolvedModule = made ports earl m in
    let range_list : List Check = map (λ (l : Line). range_check l.range) (outputs_of (ports_in m)) in
    let wire_list : List Check = flat_map wire_checks (wires_of m) in
    let width_list : List Check = flat_map (driver_width_checks er x) x.drivers in
    both_parts (module_width_checks er x) (widths_from (er ++ x ∷ []) (resolved_modules ports (earl ++ m ∷ []) ms))
    (both_parts range_list (wire_list ++ width_list) all.0.ranges (both_parts wire_list width_list all.0.wires all.0.widths))
    (widths_hold ports (earl ++ m ∷ []) (er ++ x ∷ []) ms all.2)

module_drivers_hold : (ports : Ports) (earl : List Module) (er : List ResolvedModule) (m : Module) → ModuleChecked ports earl er m → AllTrue (module_driver_checks (made ports earl m))
module_drivers_hold ports earl er m c =
    let x : ResolvedModule = made ports earl m in
    let shown_list : List Check = undriven_checks (all_shown x.drivers) 0 (map (λ (l : Line). l.name) (outputs_of (ports_in m))) in
    let driven_list : List Check = undriven_checks (all_driven x.drivers) x.inputs (own_names x) in
    let twice_list : List Check = driven_checks x.inputs [] (flat_map drives x.drivers) in
    let last_list : List Check = shown_checks [] (flat_map shows x.drivers) in
    both_parts shown_list (driven_list ++ (twice_list ++ last_list)) c.all_shown_hold
    (both_parts driven_list (twice_list ++ last_list) c.all_driven_hold (both_parts twice_list last_list c.driven_hold c.shown_hold))

pub drivers_hold : (ports : Ports) (earl : List Module) (er : List ResolvedModule) (ms : List Module) → AllChecked ports earl er ms → Outputs ms → AllTrue (drivers_from (resolved_modules ports earl ms))
drivers_hold ports earl er [] all outs = tt
drivers_hold ports earl er (m ∷ []) all outs = module_drivers_hold ports earl er m all.0
drivers_hold ports earl er (m ∷ n ∷ ms) all outs = (
  ap not (ne_eqb (length (outputs_of (ports_in m))) 0 (λ same. not_none (length (outputs_of (ports_in m))) outs.0 same)),
  both_parts (module_driver_checks (made ports earl m)) (drivers_from (resolved_modules ports (earl ++ m ∷ []) (n ∷ ms))) (module_drivers_hold ports earl er m all.0)
      (drivers_hold ports (earl ++ m ∷ []) (er ++ made ports earl m ∷ []) (n ∷ ms) all.2 outs.1),
)
  where
    not_none : (n : ℕ) → 1 ≤ n → n ≡ 0 → ⊥
    not_none n some none = omega arith
