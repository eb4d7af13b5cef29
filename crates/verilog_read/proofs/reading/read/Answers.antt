use Rattle.std.proofs.Common.{◌≡◌, Some, None, sym, subst, ◌∙◌}
use Rattle.verilog_rules.specs.Checks.{least_broken}
use Rattle.verilog_rules.specs.DriverRules.{driver_checks}
use Rattle.verilog_rules.specs.Faults.IsVFault.{no_driver, no_width}
use Rattle.verilog_rules.specs.WidthRules.{width_checks}
use Rattle.verilog_judge.specs.Driving.{DriveTheirOwn}
use Rattle.verilog_judge.specs.Meant.{AreMeant}
use Rattle.verilog_judge.specs.Read.{AreRead}
use Rattle.verilog_rules.specs.declared.resolved.Resolved.{Resolved}
use Rattle.verilog_read.proofs.Told.{told}
use Rattle.verilog_read.proofs.reading.read.Goals as goal

-- src/reading.rt:77:9
pub returns-in-Some-clause-fault : goal.returns-in-Some-clause-fault
returns-in-Some-clause-fault c =
    told _ _ _ _ c.broken.ensures
    (no_width c.in_ok-tree.tree c.in-Some.at c.in_ok-tree.ensures.tree
    (record { limits = c.in_ok-resolved.ensures.limits; names = c.in_ok-resolved.ensures.names })
    (subst (λ r. least_broken (width_checks r) ≡ Some c.in-Some.at) c.in_ok-resolved.ensures.resolved
    (sym c.in_ok-at.ensures ∙ c.in-Some.is)))

-- src/reading.rt:80:9
pub returns-in-Some-2-clause-fault : goal.returns-in-Some-2-clause-fault
returns-in-Some-2-clause-fault c =
    told _ _ _ _ c.broken-in-Some-2.ensures
    (no_driver c.in_ok-tree.tree c.in-Some-2.at c.in_ok-tree.ensures.tree
    (record {
      named = record { limits = c.in_ok-resolved.ensures.limits; names = c.in_ok-resolved.ensures.names };
      widths = subst (λ r. least_broken (width_checks r) ≡ None) c.in_ok-resolved.ensures.resolved
          (sym c.in_ok-at.ensures ∙ c.in_default.is);
    })
    (subst (λ r. least_broken (driver_checks r) ≡ Some c.in-Some-2.at) c.in_ok-resolved.ensures.resolved
    (sym c.in_ok-at-2.ensures ∙ c.in-Some-2.is)))

pub widths-requires : goal.widths-requires
widths-requires c =
    subst (λ (r : Resolved). AreRead r.modules) (sym c.in_ok-resolved.ensures.resolved)
    (c.limited_texts_are_read.ensures c.args.text.now c.in_ok-tree.tree c.in_ok-tree.ensures.tree c.in_ok-resolved.ensures.limits)

pub drivers-requires : goal.drivers-requires
drivers-requires c =
    subst (λ (r : Resolved). DriveTheirOwn r.modules) (sym c.in_ok-resolved.ensures.resolved)
    (c.named_texts_drive_their_own.ensures c.in_ok-tree.tree c.in_ok-resolved.ensures.names)

pub net-requires : goal.net-requires
net-requires c =
    subst (λ (r : Resolved). AreMeant r.modules) (sym c.in_ok-resolved.ensures.resolved)
    (c.checked_texts_are_meant.ensures c.args.text.now c.in_ok-tree.tree c.in_ok-tree.ensures.tree
    (record {
      are_wide = record {
        named = record { limits = c.in_ok-resolved.ensures.limits; names = c.in_ok-resolved.ensures.names };
        widths = subst (λ r. least_broken (width_checks r) ≡ None) c.in_ok-resolved.ensures.resolved
            (sym c.in_ok-at.ensures ∙ c.in_default.is);
      };
      drivers = subst (λ r. least_broken (driver_checks r) ≡ None) c.in_ok-resolved.ensures.resolved
          (sym c.in_ok-at-2.ensures ∙ c.in_default-2.is);
    }))
