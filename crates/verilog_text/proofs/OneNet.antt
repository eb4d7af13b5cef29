-- A text denotes at most one net.
use Rattle.std.proofs.Common.{◌≡◌, ℕ, ◌-◌, ◌<◌, List, [], ◌∷◌, ◌++◌, length, map, get_or, sym, refl, ap, ◌∙◌, subst, arith}
use Rattle.std.proofs.lemmas.Option.{slice_get-get_or}
use Rattle.chw_clock.specs.declared.event.Ports.{Ports}
use Rattle.std.specs.List.{AllByRecursion}
use Rattle.net_rules.specs.PortsHold.{FitsPort, PortsHold, RiseWithin}
use Rattle.net_rules.specs.WellFormed.{WellFormed}
use Rattle.net_rules.specs.declared.well_formed.NetCode.TheVariants.{Name}
use Rattle.netlist.specs.declared.net.Module.{Module}
use Rattle.netlist.specs.declared.net.Net.{Net}
use Rattle.verilog_text.specs.Declared.{signals_of}
use Rattle.verilog_text.specs.Denotes.{DenoteModules, Denotes}
use Rattle.verilog_text.specs.Grammar.{IsSource}
use Rattle.verilog_text.specs.Names.{input_name, output_name}
use Rattle.verilog_text.specs.Source.{ModuleItem, Source, all_of, modules_of}
use Rattle.verilog_text.specs.Text.{clock_names}
use Rattle.verilog_text.specs.VText.{VText}
use Rattle.verilog_text.specs.VTokens.{Placed}
use Rattle.verilog_text.proofs.OneModule.{SameBits, same_modules}
use Rattle.verilog_text.proofs.OnePorts.{same_clocks, same_ports, same_rising}
use Rattle.verilog_text.proofs.OneSource.{one_source}
use Rattle.verilog_text.proofs.Uniqueness.{one_splitting}

-- the rules on ports hold of a well formed net
pub ports_hold : (net : Net) → WellFormed net → PortsHold net.ports
ports_hold net well = at net.modules refl
  where
    at : (modules : List Module) → net.modules ≡ modules → PortsHold net.ports
    at [] is = let some = well.some in absurd (omega (arith, ap length is))
    at (m ∷ modules) is =
        let some = well.some in
        let last : ℕ = length net.modules - 1 in
        let within : last < length net.modules = omega arith in
        ((well.rules last (get_or net.modules last m) (slice_get-get_or net.modules last m within) Name).top (omega arith)).rules

-- the first of the modules of a text
abbrev first_of : List ModuleItem → ModuleItem → ModuleItem
first_of [] last = last
first_of (m ∷ earlier) last = m

-- its clocks and resets are those of the ports
first_signals : (ports : Ports) (earlier : List ModuleItem) (last : ModuleItem) (modules : List Module) → DenoteModules ports [] (earlier ++ last ∷ []) modules
    → signals_of (all_of (first_of earlier last).ports) ≡ clock_names ports.resets 0 ports.domains
first_signals ports [] last [] denote = absurd denote
first_signals ports [] last (x ∷ modules) denote = denote.0.signals
first_signals ports (m ∷ earlier) last [] denote = absurd denote
first_signals ports (m ∷ earlier) last (x ∷ modules) denote = denote.0.signals

one_ports : (source : Source) (a b : Net) → Denotes source a → Denotes source b → PortsHold a.ports → PortsHold b.ports → a.ports ≡ b.ports
one_ports source a b first second first_hold second_hold =
    let p : Ports = a.ports in
    let q : Ports = b.ports in
    let clocks : clock_names p.resets 0 p.domains ≡ clock_names q.resets 0 q.domains =
    sym (first_signals p source.earlier source.last a.modules first.modules) ∙ first_signals q source.earlier source.last b.modules second.modules in
    let clocks_same = same_clocks p.resets q.resets 0 p.domains q.domains clocks in
    let domains : p.domains ≡ q.domains = clocks_same.0 in
    let count : length q.domains ≡ length p.domains = ap length (sym domains) in
    let resets : p.resets ≡ q.resets =
    same_rising 0 (length p.domains) p.resets q.resets first_hold.domains.rise
    (subst (λ (n : ℕ). RiseWithin 0 n q.resets) count second_hold.domains.rise) (λ j from to. clocks_same.1 j from (omega arith)) in
    let inputs : p.inputs ≡ q.inputs =
    same_ports p.domains first_hold.domains.names first_hold.domains.differ 105 p.inputs q.inputs first_hold.inputs.0
    (subst (λ (n : ℕ). AllByRecursion (FitsPort n) q.inputs) count second_hold.inputs.0)
    (sym first.inputs.names ∙ second.inputs.names ∙ ap (λ (d : List (List ℕ)). map (input_name d) q.inputs) (sym domains))
    (sym first.inputs.widths ∙ second.inputs.widths) in
    let outputs : p.outputs ≡ q.outputs =
    same_ports p.domains first_hold.domains.names first_hold.domains.differ 111 p.outputs q.outputs first_hold.outputs.0
    (subst (λ (n : ℕ). AllByRecursion (FitsPort n) q.outputs) count second_hold.outputs.0)
    (sym first.outputs.names ∙ second.outputs.names ∙ ap (λ (d : List (List ℕ)). map (output_name d) q.outputs) (sym domains))
    (sym first.outputs.widths ∙ second.outputs.widths) in
    λ i. record { domains = domains i; resets = resets i; inputs = inputs i; outputs = outputs i }

-- a source denotes at most one net
pub one_denoted : SameBits → (source : Source) (a b : Net) → Denotes source a → Denotes source b → WellFormed a → WellFormed b → a ≡ b
one_denoted law source a b first second first_well second_well =
    let ports : a.ports ≡ b.ports = one_ports source a b first second (ports_hold a first_well) (ports_hold b second_well) in
    let modules = same_modules law a.ports [] (modules_of source) a.modules b.modules first.modules
    (subst (λ (p : Ports). DenoteModules p [] (modules_of source) b.modules) (sym ports) second.modules) in
    λ i. record { ports = ports i; modules = modules i }

pub one_net : SameBits → (text : List ℕ) (a b : Net) → VText text a → VText text b → a ≡ b
one_net law text a b first second =
    let tokens : first.tokens ≡ second.tokens = sym (one_splitting first.splits second.splits refl refl) in
    let reads : IsSource second.tokens first.source = subst (λ (t : List Placed). IsSource t first.source) tokens first.reads in
    let sources : first.source ≡ second.source = one_source first.source second.source (sym reads ∙ second.reads) in
    one_denoted law second.source a b (subst (λ (s : Source). Denotes s a) sources first.denotes) second.denotes first.well_formed second.well_formed
