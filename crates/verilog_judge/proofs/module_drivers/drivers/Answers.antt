use Rattle.std.proofs.Common.{None, sym, ap, subst, ◌∙◌}
use Rattle.verilog_checks.proofs.Steps.{least_after_is}
use Rattle.verilog_checks.specs.Least.{least_after}
use Rattle.verilog_judge.specs.Driving.{DriveTheirOwn}
use Rattle.verilog_rules.specs.Checks.{least_broken}
use Rattle.verilog_rules.specs.DriverRules.{drivers_from}
use Rattle.verilog_judge.proofs.module_drivers.drivers.Goals as goal

pub check_modules-requires : goal.check_modules-requires
check_modules-requires c = subst DriveTheirOwn (sym c.as_slice.ensures) c.requires

pub returns : goal.returns
returns c =
    c.place.ensures ∙ c.in_ok-check_modules.ensures ∙ ap (λ l. least_after l (drivers_from c.as_slice.result.now)) c.new-least.ensures
    ∙ least_after_is None (drivers_from c.as_slice.result.now) ∙ ap (λ ms. least_broken (drivers_from ms)) c.as_slice.ensures
