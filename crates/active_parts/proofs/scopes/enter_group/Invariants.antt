-- the types of the bindings so far are behind the others
use Rattle.std.proofs.Common.{◌≡◌, ◌++◌, map, take}
use Rattle.chw_terms.specs.declared.term.Binding.{Binding}
use Rattle.active_parts.specs.Grounds.{with_variables}
use Rattle.active_parts.proofs.scopes.enter_group.Given as goal

abbrev pub invariant-loop-binding : goal.invariant-loop-binding
invariant-loop-binding l =
    l.place ≡ with_variables l.fn.place (l.fn.place.vars ++ map (λ (b : Binding). b.ty) (take l.binding-index l.fn.bindings))
