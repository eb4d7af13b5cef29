-- none of the bindings so far passes a limit
use Rattle.std.proofs.Common.{◌≡◌}
use Rattle.chw_terms.specs.declared.term.Binding.{Binding}
use Rattle.blocked_places.specs.Firsts.{NonePasses}
use Rattle.blocked_places.specs.Limits.{BindingPasses}
use Rattle.blocked_places.proofs.widths.first_binding.Given as goal

abbrev pub invariant-loop-binding : goal.invariant-loop-binding
invariant-loop-binding l = record {
  same : l.widths ≡ l.initial.widths;
  none : NonePasses Binding (BindingPasses l.initial.widths) l.bindings l.binding-index;
}
