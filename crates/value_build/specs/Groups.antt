-- The variables of a letrec's bindings.
use Rattle.std.specs.Prelude.{List, [], ◌∷◌}
use Rattle.chw_base.specs.declared.index.WireId.{WireId}
use Rattle.chw_terms.specs.declared.term.Binding.{Binding}
use Rattle.net_built.specs.Terms.{Variable, variable}

-- the variables of bindings on these wires; one for which there are none left has none
abbrev pub bound_of : List Binding → List (List WireId) → List Variable
bound_of [] wires = []
bound_of (b ∷ bs) [] = variable b.ty [] ∷ bound_of bs []
bound_of (b ∷ bs) (w ∷ wires) = variable b.ty w ∷ bound_of bs wires
