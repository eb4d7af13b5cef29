use Rattle.std.proofs.Common.{◌∙◌, sym}
use Rattle.verilog_names.proofs.ModuleRules.{least_from_none}
use Rattle.verilog_rules.specs.NameRules.{name_checks}
use Rattle.verilog_names.proofs.resolving.resolve.Goals as goal

pub returns-in-Some-clause-fault : goal.returns-in-Some-clause-fault
returns-in-Some-clause-fault c =
    least_from_none (name_checks c.args.tree.now) _ _ c.new-least.ensures c.in_ok-resolved.ensures.checks ∙ sym c.in-Some.ensures

pub returns-clause-hold : goal.returns-clause-hold
returns-clause-hold c =
    least_from_none (name_checks c.args.tree.now) _ _ c.new-least.ensures c.in_ok-resolved.ensures.checks ∙ sym c.in-None.ensures
