use Rattle.std.proofs.Common.{◌≡◌}
use Rattle.chw_check.proofs.PortsLead.{LeadAlike}
use Rattle.chw_check.proofs.ports.leads_by.Given as goal

abbrev pub invariant-loop-rest : goal.invariant-loop-rest
invariant-loop-rest l = (l.table ≡ l.initial.table) × LeadAlike l.initial.table l.ty l.rest l.inputs l.left l.outputs
