-- The kinds in scope as a list.
use Rattle.std.specs.Prelude.{List, ◌∷◌, reverse}
use Rattle.chw_types.specs.declared.kind.Kind.{Kind}
use Rattle.chw_types.specs.declared.scope.Binders.{Binders}
use Rattle.chw_types.specs.declared.scope.Binders.TheVariants.{Outside, Under}

abbrev pub kinds_of : Binders → List Kind
kinds_of (Outside kinds) = reverse kinds.now
kinds_of (Under kind outer) = kind ∷ outer.now
