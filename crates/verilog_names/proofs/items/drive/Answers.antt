use Rattle.std.proofs.Common.{ap, sym, ◌∙◌}
use Rattle.verilog_checks.specs.Least.{least_after}
use Rattle.verilog_rules.specs.NameRules.{item_checks, ram_checks}
use Rattle.verilog_names.proofs.items.drive.Goals as goal

pub returns-in_ok-push-in-Ram-clause-checks : goal.returns-in_ok-push-in-Ram-clause-checks
returns-in_ok-push-in-Ram-clause-checks c =
    let least = c.args.least.now in
    c.in_ok-driver-in-Ram.ensures.checks ∙ ap (λ ports. least_after least (ram_checks ports c.args.wires.now c.in-Ram.ram)) c.clocks-in-Ram.ensures
    ∙ ap (λ x. least_after least (item_checks c.args.place.now c.args.outputs.now c.args.wires.now x)) (sym c.in-Ram.is)
