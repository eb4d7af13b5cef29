-- The bindings that stay.
use Rattle.std.specs.Prelude.{Bool, true, false, List, [], ◌∷◌}
use Rattle.chw_terms.specs.declared.term.Binding.{Binding}
use Rattle.work_lets.specs.Closings.{closed_binding}
use Rattle.work_lets.specs.declared.closing.Closing.{Closing}

-- those that are marked, with their variables closed up
abbrev pub kept_of : Closing → List Bool → List Binding → List Binding
kept_of c (true ∷ marks) (b ∷ bindings) = closed_binding c 0 b ∷ kept_of c marks bindings
kept_of c (false ∷ marks) (b ∷ bindings) = kept_of c marks bindings
kept_of c _ _ = []
