-- The built-in data types: truth values, values that may be missing, and pairs.
use Rattle.std.specs.Prelude.{ℕ, List, [], ◌∷◌, codes}
use Rattle.chw_types.specs.declared.kind.Kind.{Kind}
use Rattle.chw_types.specs.declared.kind.Kind.TheVariants.{Val}
use Rattle.chw_types.specs.declared.declarations.ConDecl.{ConDecl}
use Rattle.chw_types.specs.declared.declarations.Data.{Data}
use Rattle.chw_types.specs.TypeTree.{TypeTree, ty_var}

abbrev pub constructor_of : List ℕ → List TypeTree → ConDecl
constructor_of name fields = record { name = name; fields = fields }

abbrev pub data_type_of : List ℕ → List Kind → List ConDecl → Data
data_type_of name params cons = record { name = name; params = params; kind = Val; cons = cons }

-- `data Bool = False | True; data Maybe (a : Val) = Nothing | Just a; data Pair (a : Val) (b : Val) = Pair a b;`
abbrev pub built_in : List Data
built_in =
    data_type_of (codes "Bool") [] (constructor_of (codes "False") [] ∷ constructor_of (codes "True") [] ∷ [])
    ∷ data_type_of (codes "Maybe") (Val ∷ []) (constructor_of (codes "Nothing") [] ∷ constructor_of (codes "Just") (ty_var 0 ∷ []) ∷ [])
    ∷ data_type_of (codes "Pair") (Val ∷ Val ∷ []) (constructor_of (codes "Pair") (ty_var 1 ∷ ty_var 0 ∷ []) ∷ [])
    ∷ []
