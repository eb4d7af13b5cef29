use Rattle.std.proofs.Common.{[], ◌++◌, ap, ◌∙◌}
use Rattle.verilog_names.proofs.ModuleRules.{resolved_whole, rules_whole}
use Rattle.verilog_checks.specs.Least.{least_after}
use Rattle.verilog_rules.specs.NameRules.{earlier_checks, last_checks}
use Rattle.verilog_names.proofs.modules.resolve_modules.Goals as goal

pub returns-clause-modules : goal.returns-clause-modules
returns-clause-modules c =
    resolved_whole c.args.clocks.now c.args.tree.now.earlier _ c.args.tree.now.last _ _ _ _ c.new-made.ensures.items c.as_slice-earlier.ensures
    c.in_ok-resolve_earlier.ensures.modules c.in_ok-last.ensures.module c.in_ok-push.ensures.items

pub returns-clause-checks : goal.returns-clause-checks
returns-clause-checks c =
    let earlier = c.args.tree.now.earlier in
    let last = c.args.tree.now.last in
    rules_whole c.args.clocks.now earlier _ last _ _ _ c.as_slice-earlier.ensures (c.in_ok-resolve_earlier.ensures.checks last c.requires.signals) c.in_ok-last.ensures.checks
    ∙ ap (λ p. least_after c.args.least.now (earlier_checks p last [] earlier ++ last_checks p earlier last)) c.requires.ports
