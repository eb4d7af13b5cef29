use Rattle.std.proofs.Common.{ap, ◌∙◌}
use Rattle.std.specs.List.{flat_map}
use Rattle.std.proofs.lemmas.Result.{on_ok_weaker}
use Rattle.verilog_names.proofs.ModuleRules.{last_taken, placed}
use Rattle.verilog_checks.specs.Least.{least_after}
use Rattle.verilog_rules.specs.Checks.{broken_at, check, lesser}
use Rattle.verilog_rules.specs.Declarations.{ports_in}
use Rattle.verilog_rules.specs.NameRules.{module_checks, port_form}
use Rattle.verilog_names.proofs.modules.resolve_last.Goals as goal

pub returns-clause-checks : goal.returns-clause-checks
returns-clause-checks c =
    let last = c.args.tree.now.last in
    let ports = c.args.clocks.now in
    on_ok_weaker c.resolve_behind.result
    (λ taken. last_taken ports c.args.tree.now.earlier last c.args.least.now c.check.new.self c.check_top_ports.new.least c.resolve_behind.new.least
    (c.check.ensures ∙ ap (λ b. lesser c.args.least.now (broken_at (check last.name.at b))) c.are_same.ensures)
    (c.check_top_ports.ensures ∙ ap (λ ds. least_after c.check.new.self (flat_map (port_form ds) (ports_in last))) c.domains.ensures)
    (taken ∙ ap (λ ms. least_after c.check_top_ports.new.least (module_checks (placed ports ms) last)) c.as_slice.ensures))
    c.resolve_behind.ensures.checks
