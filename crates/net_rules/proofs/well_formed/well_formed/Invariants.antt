use Rattle.std.proofs.Common.{◌≡◌, ℕ, ◌<◌, ◌≤◌, length, Some}
use Rattle.std.specs.Prelude.{slice_get}
use Rattle.chw_base.specs.declared.limits.TheConstants.{MODULES}
use Rattle.net_rules.specs.WellFormed.{EachRuleHolds}
use Rattle.netlist.specs.declared.net.Module.{Module}
use Rattle.net_rules.proofs.well_formed.well_formed.Given as goal

-- the rules hold of each module so far, and of the first that the modules are few
abbrev pub invariant-loop-m : goal.invariant-loop-m
invariant-loop-m l = record {
  number : l.number ≡ l.m-index;
  earlier : (j : ℕ) (m : Module) → j < l.m-index → slice_get l.fn.net.modules j ≡ Some m → EachRuleHolds l.fn.net j m;
  few : 0 < l.m-index → length l.fn.net.modules ≤ MODULES;
}
