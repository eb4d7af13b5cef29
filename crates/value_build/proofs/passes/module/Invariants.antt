-- so many passes found other wires than they knew, the last one those that are known
use Rattle.std.proofs.Common.{◌≡◌, ◌-◌, suc, length}
use Rattle.net_ready.specs.Drafts.{Passes, bindings_in}
use Rattle.value_build.specs.InScope.{in_scope}
use Rattle.value_build.proofs.passes.module.Given as goal

abbrev pub invariant-loop-known : goal.invariant-loop-known
invariant-loop-known l = record {
  passes : Passes l.initial.base (in_scope l.initial.scope.items) (length l.inputs) l.e l.passes l.known.items;
  scope : l.scope.items ≡ l.initial.scope.items;
  base : l.base ≡ l.initial.base;
}

abbrev pub decreases-loop-known : goal.decreases-loop-known
decreases-loop-known l = suc (suc (bindings_in l.e)) - l.passes
