use Rattle.std.proofs.Common.{None, [], sym, ap, subst, ◌∙◌}
use Rattle.verilog_checks.proofs.Steps.{least_after_is}
use Rattle.verilog_checks.specs.Least.{least_after}
use Rattle.verilog_judge.specs.Read.{AreRead}
use Rattle.verilog_rules.specs.Checks.{least_broken}
use Rattle.verilog_rules.specs.WidthRules.{widths_from}
use Rattle.verilog_judge.proofs.module_widths.widths.Goals as goal

pub check_modules-requires : goal.check_modules-requires
check_modules-requires c = subst AreRead (sym c.as_slice.ensures) c.requires

pub returns : goal.returns
returns c =
    c.place.ensures ∙ c.in_ok-check_modules.ensures ∙ ap (λ l. least_after l (widths_from [] c.as_slice.result.now)) c.new-least.ensures
    ∙ least_after_is None (widths_from [] c.as_slice.result.now) ∙ ap (λ ms. least_broken (widths_from [] ms)) c.as_slice.ensures
