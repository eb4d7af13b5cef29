-- What stands for the parameters of a data type, and what its fields are.
use Rattle.std.specs.Prelude.{suc, zero, List, [], ◌∷◌, ◌++◌, reverse}
use Rattle.chw_types.specs.declared.declarations.ConDecl.{ConDecl}
use Rattle.chw_types.specs.TypeTree.{TypeTree, ty_var, TypeTrees, no_types, type_and}
use Rattle.chw_types.specs.TypeMoves.{Substitution}

-- the types of a list of arguments
abbrev pub list_of : TypeTrees → List TypeTree
list_of no_types = []
list_of (type_and t ts) = t ∷ list_of ts

-- these types for the variables from 0 on; later variables come down by their number
abbrev pub given : List TypeTree → Substitution
given [] x = ty_var x
given (a ∷ more) zero = a
given (a ∷ more) (suc x) = given more x

-- the arguments for the parameters, of which the last is the variable 0
abbrev pub arguments : TypeTrees → Substitution
arguments ts = given (reverse (list_of ts))

-- the fields of all constructors, in order
abbrev pub all_fields : List ConDecl → List TypeTree
all_fields [] = []
all_fields (c ∷ cs) = c.fields ++ all_fields cs
