-- The kind of a type as a function, for the code. The relation is `KindOf`.
use Rattle.std.specs.Prelude.{ℕ, ◌+◌, Bool, true, false, ◌&&◌, nat_lt, nat_le, List, [], ◌∷◌, Option, Some, None, max}
use Rattle.std.specs.List.{slice_get}
use Rattle.chw_types.specs.declared.kind.Kind.{Kind}
use Rattle.chw_types.specs.declared.kind.Kind.TheVariants.{Nat, Dom, Val, Cir}
use Rattle.chw_types.specs.declared.declarations.Data.{Data}
use Rattle.chw_types.specs.TypeTree.{TypeTree, ty_var, nat_lit, nat_sum, nat_product, domain, scalar, vector, data_of, fun, signal, for_all, TypeTrees, no_types, type_and}
use Rattle.chw_types.specs.Kinds.{degree, most_degree}

-- of a sum or product, by whether its degree is small enough and the kinds of its parts
abbrev pub natural_kind : Bool → Option Kind → Option Kind → Option Kind
natural_kind true (Some Nat) (Some Nat) = Some Nat
natural_kind _ _ _ = None

abbrev pub domain_kind : Bool → Option Kind
domain_kind true = Some Dom
domain_kind false = None

abbrev pub scalar_kind : Option Kind → Option Kind
scalar_kind (Some Nat) = Some Val
scalar_kind _ = None

abbrev pub vector_kind : Option Kind → Option Kind → Option Kind
vector_kind (Some Nat) (Some Val) = Some Val
vector_kind (Some Nat) (Some Cir) = Some Cir
vector_kind _ _ = None

abbrev pub function_kind : Option Kind → Option Kind → Option Kind
function_kind (Some Val) (Some Val) = Some Val
function_kind (Some Val) (Some Cir) = Some Cir
function_kind (Some Cir) (Some Cir) = Some Cir
function_kind _ _ = None

abbrev pub signal_kind : Option Kind → Option Kind → Option Kind
signal_kind (Some Dom) (Some Val) = Some Cir
signal_kind _ _ = None

abbrev pub bound_kind : Option Kind → Option Kind
bound_kind (Some Val) = Some Val
bound_kind (Some Cir) = Some Cir
bound_kind _ = None

abbrev pub is_kind : Option Kind → Kind → Bool
is_kind (Some Nat) Nat = true
is_kind (Some Dom) Dom = true
is_kind (Some Val) Val = true
is_kind (Some Cir) Cir = true
is_kind _ _ = false

-- the kinds of the parameters, where there is such a data type
abbrev pub params_of : Option Data → List Kind
params_of None = []
params_of (Some it) = it.params

-- the data type's own kind, where there is such a data type and its arguments are right
abbrev pub data_kind : Option Data → Bool → Option Kind
data_kind (Some it) true = Some it.kind
data_kind _ _ = None

unfoldable mutual
  pub kind_found : List Data → ℕ → List Kind → TypeTree → Option Kind
  kind_found datas domains scope (ty_var x) = slice_get scope x
  kind_found datas domains scope (nat_lit n) = Some Nat
  kind_found datas domains scope (nat_sum a b) =
      natural_kind (nat_le (max (degree a) (degree b)) most_degree) (kind_found datas domains scope a) (kind_found datas domains scope b)
  kind_found datas domains scope (nat_product a b) =
      natural_kind (nat_le (degree a + degree b) most_degree) (kind_found datas domains scope a) (kind_found datas domains scope b)
  kind_found datas domains scope (domain d) = domain_kind (nat_lt d domains)
  kind_found datas domains scope (scalar s w) = scalar_kind (kind_found datas domains scope w)
  kind_found datas domains scope (vector n t) =
      vector_kind (kind_found datas domains scope n) (kind_found datas domains scope t)
  kind_found datas domains scope (data_of d ts) =
      data_kind (slice_get datas d) (are_kinds datas domains scope ts (params_of (slice_get datas d)))
  kind_found datas domains scope (fun a b) =
      function_kind (kind_found datas domains scope a) (kind_found datas domains scope b)
  kind_found datas domains scope (signal d t) =
      signal_kind (kind_found datas domains scope d) (kind_found datas domains scope t)
  kind_found datas domains scope (for_all k t) = bound_kind (kind_found datas domains (k ∷ scope) t)

  pub are_kinds : List Data → ℕ → List Kind → TypeTrees → List Kind → Bool
  are_kinds datas domains scope no_types [] = true
  are_kinds datas domains scope (type_and t ts) (k ∷ ks) =
      is_kind (kind_found datas domains scope t) k && are_kinds datas domains scope ts ks
  are_kinds datas domains scope no_types (k ∷ ks) = false
  are_kinds datas domains scope (type_and t ts) [] = false
