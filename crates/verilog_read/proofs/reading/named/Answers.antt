use Rattle.std.proofs.Common.{◌≡◌, Some, sym, ◌∙◌}
use Rattle.verilog_names.specs.declared.resolving.NameFault.{NameFault}
use Rattle.verilog_rules.specs.Checks.{least_broken}
use Rattle.verilog_rules.specs.Faults.IsVFault.{no_limit, no_name}
use Rattle.verilog_rules.specs.NameRules.{name_checks}
use Rattle.verilog_read.proofs.Told.{of_fault, told}
use Rattle.verilog_read.proofs.reading.named.Goals as goal

-- src/reading.rt:56:9
pub returns-in-Some-clause-fault : goal.returns-in-Some-clause-fault
returns-in-Some-clause-fault c =
    told _ _ _ _ c.broken.ensures (no_limit c.args.tree.now c.in-Some.at c.requires (sym c.limits.ensures ∙ c.in-Some.is))

-- src/reading.rt:48:1
pub returns-in-Err-Fault-clause-fault : goal.returns-in-Err-Fault-clause-fault
returns-in-Err-Fault-clause-fault c =
    told _ _ _ _ c.broken-in-Err-Fault.ensures
    (no_name c.args.tree.now c.in-Err-Fault.fault.at c.requires (sym c.limits.ensures ∙ c.in_default.is)
    (of_fault (λ (f : NameFault). least_broken (name_checks c.args.tree.now) ≡ Some f.at) c.in-Err-Fault.field-0 c.in-Err-Fault.fault
    c.in-Err-Fault.field-0-is c.in-Err-Fault.ensures.fault))

pub resolve-requires-clause-inputs : goal.resolve-requires-clause-inputs
resolve-requires-clause-inputs c = c.limited_ports_are_narrow.ensures.inputs c.args.tree.now (sym c.limits.ensures ∙ c.in_default.is)

pub resolve-requires-clause-outputs : goal.resolve-requires-clause-outputs
resolve-requires-clause-outputs c = c.limited_ports_are_narrow.ensures.outputs c.args.tree.now (sym c.limits.ensures ∙ c.in_default.is)
