-- the modules that are left are still to be resolved, behind those so far
use Rattle.std.proofs.Common.{◌≡◌, ◌++◌, [], drop, take}
use Rattle.verilog_checks.specs.Least.{least_after}
use Rattle.verilog_rules.specs.Declarations.{ports_in, signals_of}
use Rattle.verilog_rules.specs.NameRules.{earlier_checks, module_names}
use Rattle.verilog_rules.specs.Resolving.{resolved_modules}
use Rattle.verilog_tree.specs.declared.module.Module.{Module}
use Rattle.verilog_names.proofs.modules.resolve_earlier.Given as goal

abbrev pub invariant-loop-i : goal.invariant-loop-i
invariant-loop-i l =
    record {
      names : l.names ≡ module_names (take l.i l.earlier);
      modules : l.made.items ++ resolved_modules l.clocks (take l.i l.earlier) (drop l.i l.earlier) ≡ l.initial.made.items ++ resolved_modules l.clocks [] l.earlier;
      checks :
          (last : Module) → l.signals ≡ signals_of (ports_in last)
          → least_after l.least (earlier_checks l.clocks last (take l.i l.earlier) (drop l.i l.earlier)) ≡ least_after l.initial.least (earlier_checks l.clocks last [] l.earlier);
    }
