-- The net of a checked text is well formed.
use Rattle.std.proofs.Common.{◌≡◌, ℕ, ◌+◌, ◌≤◌, Bool, true, false, cond, List, [], ◌∷◌, ◌++◌, length, map, refl, sym, ap, ◌∙◌, subst, arith}
use Rattle.std.specs.Prelude.{codes}
use Rattle.std.specs.List.{AllByRecursion, flat_map}
use Rattle.std.specs.Str.{bytes_eq}
use Rattle.std.proofs.lemmas.List.{map-append}
use Rattle.std.proofs.lemmas.Slice.Eq.{bytes_eq-Decides}
use Rattle.chw_base.specs.declared.index.DomId.{DomId}
use Rattle.chw_clock.specs.Histories.{is_one_of}
use Rattle.net_rules.specs.PortsHold.{FitPorts, FitsPort, PortsHold, RiseWithin, full_name}
use Rattle.verilog_text.specs.Names.{clock_name, domain_name, reset_name}
use Rattle.verilog_text.specs.Text.{clock_names}
use Rattle.verilog_tree.specs.Sources.{bytes_of}
use Rattle.verilog_tree.specs.declared.module.Module.{Module}
use Rattle.verilog_tree.specs.declared.module.Port.{Port}
use Rattle.verilog_tree.specs.declared.module.Port.TheVariants.{Input, Output, Signal}
use Rattle.verilog_tree.specs.declared.module.Tree.{Tree}
use Rattle.verilog_tree.specs.declared.word.Line.{Line}
use Rattle.verilog_tree.specs.declared.word.Word.{Word}
use Rattle.verilog_rules.specs.Declarations.{declared_words, inputs_of, line_name, outputs_of, port_of, port_word, ports_in, ports_of, signals_of, words_by}
use Rattle.verilog_rules.specs.NameRules.{port_form, texts}
use Rattle.verilog_rules.proofs.Distinct.{Once, count, count_both, distinct_once, one_if}
use Rattle.verilog_rules.proofs.Holding.{AllTrue}
use Rattle.verilog_rules.proofs.Texts.{TextChecked}
use Rattle.verilog_rules.proofs.Tops.{TopPort, input_ports, output_ports}

-- COUNTS OF PORTS

port_counts : (name : List ℕ) (ports : List Port) → count name (texts (map port_word ports))
    ≡ count name (texts (signals_of ports)) + (count name (map line_name (outputs_of ports)) + count name (map line_name (inputs_of ports)))
port_counts name [] = refl
port_counts name (Signal s ∷ ports) =
    let more : count name (texts (map port_word ports)) ≡ count name (texts (signals_of ports)) + (count name (map line_name (outputs_of ports)) + count name (map line_name (inputs_of ports))) = port_counts name ports in omega arith
port_counts name (Input l ∷ ports) =
    let more : count name (texts (map port_word ports)) ≡ count name (texts (signals_of ports)) + (count name (map line_name (outputs_of ports)) + count name (map line_name (inputs_of ports))) = port_counts name ports in omega arith
port_counts name (Output l ∷ ports) =
    let more : count name (texts (map port_word ports)) ≡ count name (texts (signals_of ports)) + (count name (map line_name (outputs_of ports)) + count name (map line_name (inputs_of ports))) = port_counts name ports in omega arith

-- names of ports stand once
record PortsOnce (ports : List Port) : Type 0 where
  pub signals : Once (texts (signals_of ports))
  pub inputs : Once (map line_name (inputs_of ports))
  pub outputs : Once (map line_name (outputs_of ports))

ports_once : (m : Module) (all : Once (texts (declared_words m))) → PortsOnce (ports_in m)
ports_once m all = record {
  signals = λ name. (three name).0;
  inputs = λ name. (three name).1;
  outputs = λ name. (three name).2;
}
  where
    three : (name : List ℕ) → (count name (texts (signals_of (ports_in m))) ≤ 1) × (count name (map line_name (inputs_of (ports_in m))) ≤ 1) × (count name (map line_name (outputs_of (ports_in m))) ≤ 1)
    three name =
        let ports : List Port = ports_in m in
        let items : List Word = flat_map words_by m.items in
        let sum : count name (texts (map port_word ports ++ items)) ≡ count name (texts (map port_word ports)) + count name (texts items) =
        ap (count name) (map-append bytes_of (map port_word ports) items) ∙ count_both name (texts (map port_word ports)) (texts items) in
        let few : count name (texts (map port_word ports ++ items)) ≤ 1 = all name in
        let by_ports : count name (texts (map port_word ports)) ≡ count name (texts (signals_of ports)) + (count name (map line_name (outputs_of ports)) + count name (map line_name (inputs_of ports))) = port_counts name ports in
        (omega arith, omega arith, omega arith)

-- each domain has its clock
domain_counts : (resets : List DomId) (k : ℕ) (name : List ℕ) (domains : List (List ℕ)) → count name domains ≤ count (clock_name name) (clock_names resets k domains)
domain_counts resets k name [] = omega arith
domain_counts resets k name (d ∷ domains) =
    let more : count name domains ≤ count (clock_name name) (clock_names resets (k + 1) domains) = domain_counts resets (k + 1) name domains in
    let behind : List (List ℕ) = cond (is_one_of resets (record { number = k })) (reset_name d ∷ []) [] in
    let sum : count (clock_name name) (behind ++ clock_names resets (k + 1) domains) ≡ count (clock_name name) behind + count (clock_name name) (clock_names resets (k + 1) domains) =
    count_both (clock_name name) behind (clock_names resets (k + 1) domains) in
    omega arith

-- the names of ports by their full names
abbrev line_of_full : List (List ℕ) → List ℕ → List ℕ → List ℕ
line_of_full domains front [] = []
line_of_full domains front (n ∷ rest) = front ++ (domain_name domains (record { number = n }) ++ (codes "_" ++ rest))

full_counts : (domains : List (List ℕ)) (front : List ℕ) (full : List ℕ) (ls : List Line) → AllByRecursion (TopPort domains front) ls
    → count full (map full_name (map (port_of domains) ls)) ≤ count (line_of_full domains front full) (map line_name ls)
full_counts domains front full [] all = omega arith
full_counts domains front full (l ∷ ls) all =
    let more : count full (map full_name (map (port_of domains) ls)) ≤ count (line_of_full domains front full) (map line_name ls) = full_counts domains front full ls all.1 in
    let here : one_if (bytes_eq full (full_name (port_of domains l))) ≤ one_if (bytes_eq (line_of_full domains front full) (line_name l)) =
    by_case (bytes_eq full (full_name (port_of domains l))) refl in
    omega arith
  where
    by_case : (b : Bool) → bytes_eq full (full_name (port_of domains l)) ≡ b → one_if b ≤ one_if (bytes_eq (line_of_full domains front full) (line_name l))
    by_case false is = omega arith
    by_case true is =
        let same : full ≡ full_name (port_of domains l) = (bytes_eq-Decides full (full_name (port_of domains l))).0 is in
        let line : line_of_full domains front full ≡ line_name l = ap (line_of_full domains front) same ∙ sym all.0.name_is in
        let one : one_if (bytes_eq (line_of_full domains front full) (line_name l)) ≡ 1 = ap one_if ((bytes_eq-Decides (line_of_full domains front full) (line_name l)).1 line) in
        omega arith

fit_ports : (domains : List (List ℕ)) (front : List ℕ) (ls : List Line) → AllByRecursion (TopPort domains front) ls → Once (map line_name ls) → FitPorts (length domains) (map (port_of domains) ls)
fit_ports domains front ls all once = (
  each ls all,
  distinct_once (map full_name (map (port_of domains) ls)) (λ full.
      let fewer = full_counts domains front full ls all in
      let few = once (line_of_full domains front full) in omega arith),
)
  where
    each : (ls : List Line) → AllByRecursion (TopPort domains front) ls → AllByRecursion (FitsPort (length domains)) (map (port_of domains) ls)
    each [] all = tt
    each (l ∷ ls) all = (all.0.fits, each ls all.1)

-- there is a domain
some_domain : (domains : List (List ℕ)) (resets : List DomId) (ports : List Port) (first : Port) → texts (signals_of (first ∷ ports)) ≡ clock_names resets 0 domains
    → AllTrue (flat_map (port_form domains) (first ∷ ports)) → 1 ≤ length domains
some_domain [] resets ports (Signal s) names forms = absurd (cc)
some_domain (d ∷ domains) resets ports (Signal s) names forms = omega arith
some_domain domains resets ports (Input l) names forms =
    let top = (input_ports domains (Input l ∷ ports) forms).0 in let below = top.fits.0 in omega arith
some_domain domains resets ports (Output l) names forms =
    let top = (output_ports domains (Output l ∷ ports) forms).0 in let below = top.fits.0 in omega arith

pub ports_hold : (tree : Tree) → TextChecked tree → Once (texts (declared_words tree.last)) → PortsHold (ports_of tree)
ports_hold tree c once =
    let ports : List Port = ports_in tree.last in
    let domains : List (List ℕ) = (ports_of tree).domains in
    let resets : List DomId = (ports_of tree).resets in
    let names : texts (signals_of ports) ≡ clock_names resets 0 domains = c.signals.names resets (λ j from. refl) in
    let stand : PortsOnce ports = ports_once tree.last once in
    let none : 0 + length domains ≡ length domains = omega arith in
    record {
      domains = record {
        some = some_domain domains resets tree.last.others tree.last.first names c.ports;
        names = c.signals.uppers;
        differ = distinct_once domains (λ name. fewer (count name domains) (count (clock_name name) (clock_names resets 0 domains)) (domain_counts resets 0 name domains)
            (subst (λ (ns : List (List ℕ)). count (clock_name name) ns ≤ 1) names (stand.signals (clock_name name))));
        rise = subst (λ (n : ℕ). RiseWithin 0 n resets) none c.signals.rise;
      };
      inputs = fit_ports domains (codes "i_") (inputs_of ports) (input_ports domains ports c.ports) stand.inputs;
      outputs = fit_ports domains (codes "o_") (outputs_of ports) (output_ports domains ports c.ports) stand.outputs;
    }
  where
    fewer : (a b : ℕ) → a ≤ b → b ≤ 1 → a ≤ 1
    fewer a b first second = omega arith
