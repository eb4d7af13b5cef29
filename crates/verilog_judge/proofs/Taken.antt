-- Rules on lists, taken item by item.
use Rattle.std.proofs.Common.{◌≡◌, ℕ, ◌+◌, ◌<◌, ◌≤◌, List, [], ◌∷◌, ◌++◌, length, get_or, drop, map, take, Option, refl, sym, ap, ◌∙◌}
use Rattle.std.proofs.lemmas.List.{at_drop_all, at_drop_more, take-map, take_more}
use Rattle.verilog_checks.proofs.Steps.{least_after_both}
use Rattle.verilog_checks.specs.Least.{least_after}
use Rattle.verilog_judge.specs.Words.{used_checks}
use Rattle.verilog_rules.specs.Texts.{width}
use Rattle.verilog_rules.specs.WidthRules.{module_width_checks, port_checks, wire_widths, widths_from, widths_of}
use Rattle.verilog_rules.specs.declared.resolved.Operand.{Operand}
use Rattle.verilog_rules.specs.declared.resolved.ResolvedModule.{ResolvedModule}
use Rattle.verilog_rules.specs.declared.resolved.Wire.{Wire}

without_wires : (widths ports : List ℕ) (least : Option ℕ) → least ≡ least_after least (port_checks widths ports [])
without_wires widths [] least = refl
without_wires widths (n ∷ ports) least = refl

-- there are no more wires
pub all_ports : (widths ports : List ℕ) (operands : List Operand) (k : ℕ) (least whole : Option ℕ) → length operands ≤ k
    → least_after least (port_checks widths (drop k ports) (drop k operands)) ≡ whole → least ≡ whole
all_ports widths ports operands k least whole le left =
    without_wires widths (drop k ports) least
    ∙ sym (at_drop_all (λ xs. least_after least (port_checks widths (drop k ports) xs)) operands k le) ∙ left

-- a use: what it reads, and what it drives
pub used_checked : (widths : List ℕ) (used : ResolvedModule) (reads drives : List Operand) (inputs outputs : List ℕ) (least mid next : Option ℕ)
    → inputs ≡ map (λ (w : Wire). width w.line.range) (take used.inputs used.wires) → outputs ≡ widths_of used.outputs
    → mid ≡ least_after least (port_checks widths inputs reads) → next ≡ least_after mid (port_checks widths outputs drives)
    → next ≡ least_after least (used_checks widths used reads drives)
used_checked widths used reads drives inputs outputs least mid next inputs_are outputs_are first second =
    let ports : List ℕ = take used.inputs (wire_widths used) in
    second ∙ ap (λ l. least_after l (port_checks widths outputs drives)) first
    ∙ ap (λ ps. least_after (least_after least (port_checks widths ps reads)) (port_checks widths outputs drives))
    (inputs_are ∙ sym (take-map (λ (w : Wire). width w.line.range) used.inputs used.wires))
    ∙ ap (λ ps. least_after (least_after least (port_checks widths ports reads)) (port_checks widths ps drives)) outputs_are
    ∙ sym (least_after_both least (port_checks widths ports reads) (port_checks widths (widths_of used.outputs) drives))

-- one module more
pub module_more : (ms : List ResolvedModule) (k : ℕ) (m d : ResolvedModule) (earlier : List ResolvedModule) (least next whole : Option ℕ) → k < length ms → m ≡ get_or ms k d
    → earlier ≡ take k ms → next ≡ least_after least (module_width_checks earlier m) → least_after least (widths_from (take k ms) (drop k ms)) ≡ whole
    → least_after next (widths_from (take (k + 1) ms) (drop (k + 1) ms)) ≡ whole
module_more ms k m d earlier least next whole lt is before taken left =
    ap (λ l. least_after l (widths_from (take (k + 1) ms) (drop (k + 1) ms)))
    (taken ∙ ap (λ e. least_after least (module_width_checks e m)) before ∙ ap (λ x. least_after least (module_width_checks (take k ms) x)) is)
    ∙ sym (least_after_both least (module_width_checks (take k ms) (get_or ms k d)) (widths_from (take (k + 1) ms) (drop (k + 1) ms)))
    ∙ ap (λ e. least_after least (module_width_checks (take k ms) (get_or ms k d) ++ widths_from e (drop (k + 1) ms))) (take_more ms k d lt)
    ∙ sym (at_drop_more (λ xs. least_after least (widths_from (take k ms) xs)) ms k d lt) ∙ left
