use Rattle.std.proofs.Common.{drop}
use Rattle.net_rules.specs.PortsHold.{RiseWithin}
use Rattle.net_rules.proofs.well_formed.ports.rise_below.Given as goal

-- all rise where those that are left rise from here on
abbrev pub invariant-loop-domain : goal.invariant-loop-domain
invariant-loop-domain l = record {
  whole : RiseWithin l.least l.end (drop l.domain-index l.domains) → RiseWithin 0 l.end l.domains;
  rest : RiseWithin 0 l.end l.domains → RiseWithin l.least l.end (drop l.domain-index l.domains);
}
