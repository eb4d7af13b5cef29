-- Variables in scope, as they are held: the outermost first.
use Rattle.std.specs.Prelude.{List, map, reverse}
use Rattle.net_built.specs.Terms.{Variable, variable}
use Rattle.value_build.specs.declared.scope.Variable.{Variable as Held}

-- a variable as it is held
abbrev pub as_variable : Held → Variable
as_variable v = variable v.ty v.wires

abbrev pub as_variables : List Held → List Variable
as_variables vs = map as_variable vs

-- the innermost first
abbrev pub in_scope : List Held → List Variable
in_scope vs = reverse (as_variables vs)
