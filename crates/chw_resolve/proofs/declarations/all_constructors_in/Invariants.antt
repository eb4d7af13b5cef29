use Rattle.std.proofs.Common.{◌≡◌, map, take}
use Rattle.chw_resolve.specs.Programs.{constructor_in}
use Rattle.chw_resolve.proofs.declarations.all_constructors_in.Given as goal

abbrev pub invariant-loop-constructor : goal.invariant-loop-constructor
invariant-loop-constructor l = record {
  scope : l.variables ≡ l.initial.variables;
  made : l.cons.items ≡ map (constructor_in l.globals l.initial.variables) (take l.constructor-index l.constructors);
}
