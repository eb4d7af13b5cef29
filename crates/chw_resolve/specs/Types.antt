-- The types that the types of a tree become, by the names in scope.
use Rattle.std.specs.Prelude.{ℕ, ◌-◌, List, ◌∷◌, length, Option, Some, None, slice_get}
use Rattle.std.specs.Option.{unwrap_or}
use Rattle.chw_base.specs.declared.limits.TheConstants.{TYPE_NUMERAL_BITS}
use Rattle.chw_grammar.specs.declared.type_tree.KindTree.{KindTree}
use Rattle.chw_grammar.specs.declared.type_tree.KindTree.TheVariants as kind_word
use Rattle.chw_grammar.specs.TypeTree.{Ty, type_forall, type_arrow, type_sum, type_product, type_named, type_variable, type_numeral, Tys}
use Rattle.chw_grammar.specs.TypeTree as written
use Rattle.chw_grammar.specs.Literals.{number_of, within}
use Rattle.chw_names.specs.declared.globals.Globals.{Globals}
use Rattle.chw_types.specs.declared.kind.Kind.{Kind}
use Rattle.chw_types.specs.declared.kind.Kind.TheVariants as kind
use Rattle.chw_types.specs.TypeTree.{TypeTree, ty_var, nat_lit, nat_sum, nat_product, domain, scalar, vector, data_of, fun, signal, for_all, TypeTrees, no_types, type_and}
use Rattle.name_tables.specs.Names.{place_of}
use Rattle.chw_resolve.specs.declared.types.TypeName.{TypeName}
use Rattle.chw_resolve.specs.declared.types.TypeName.TheVariants as type_name
use Rattle.chw_resolve.specs.declared.types.TheConstants.{TYPE_FORMS}

-- the kind that is written
abbrev pub kind_in : KindTree → Kind
kind_in kind_word.Nat = kind.Nat
kind_in kind_word.Dom = kind.Dom
kind_in kind_word.Val = kind.Val
kind_in kind_word.Cir = kind.Cir

-- the place of a name among these; 0 where it is none of them
abbrev pub place_in : List (List ℕ) → List ℕ → ℕ
place_in names name = unwrap_or (place_of names name) 0

-- what stands at this place among the names of types: a built-in type that is no data type, or a data type behind all of these
abbrev pub type_at : ℕ → TypeName
type_at place = unwrap_or (slice_get TYPE_FORMS place) (type_name.Data (record { number = place - length TYPE_FORMS }))

-- a name that stands at this place among the names of types, or else is the domain of this number
abbrev pub type_or_domain : Option ℕ → ℕ → TypeName
type_or_domain (Some place) number = type_at place
type_or_domain None number = type_name.Domain (record { number = number })

-- what an upper name in a type stands for: a data type hides a domain of its name
abbrev pub named_type : Globals → List ℕ → TypeName
named_type g name = type_or_domain (place_of g.data_types name) (place_in g.domains name)

-- how many data types there are, the built-in ones too. So this is the number of none
abbrev pub data_types_in : Globals → ℕ
data_types_in g = length g.data_types - length TYPE_FORMS

-- a name at arguments. Where these are too few or too many, the data type of a number that names none
abbrev pub at_arguments : ℕ → TypeName → TypeTrees → TypeTree
at_arguments none (type_name.Scalar sort) (type_and n no_types) = scalar sort n
at_arguments none type_name.Vector (type_and n (type_and t no_types)) = vector n t
at_arguments none type_name.Signal (type_and d (type_and t no_types)) = signal d t
at_arguments none (type_name.Domain d) no_types = domain d.number
at_arguments none (type_name.Data d) ts = data_of d.number ts
at_arguments none _ ts = data_of none ts

-- a type with further parts of its chain behind it, nested to the left
abbrev pub chain : (TypeTree → TypeTree → TypeTree) → TypeTree → TypeTrees → TypeTree
chain join t no_types = t
chain join t (type_and u us) = chain join (join t u) us

-- a chain of parts, nested to the left
abbrev pub chain_of : (TypeTree → TypeTree → TypeTree) → TypeTrees → TypeTree
chain_of join no_types = nat_lit 0
chain_of join (type_and t ts) = chain join t ts

abbrev mutual
  -- the type of a tree, by the names of the type variables in scope, the innermost first
  pub type_in : Globals → List (List ℕ) → Ty → TypeTree
  type_in g variables (type_forall w k t) = for_all (kind_in k) (type_in g (w.bytes ∷ variables) t)
  type_in g variables (type_arrow a b) = fun (type_in g variables a) (type_in g variables b)
  type_in g variables (type_sum ts) = chain_of nat_sum (types_in g variables ts)
  type_in g variables (type_product ts) = chain_of nat_product (types_in g variables ts)
  type_in g variables (type_named w ts) = at_arguments (data_types_in g) (named_type g w.bytes) (types_in g variables ts)
  type_in g variables (type_variable w) = ty_var (place_in variables w.bytes)
  type_in g variables (type_numeral w) =
      nat_lit (unwrap_or (within TYPE_NUMERAL_BITS (number_of w.bytes)) 0)

  pub types_in : Globals → List (List ℕ) → Tys → TypeTrees
  types_in g variables written.no_types = no_types
  types_in g variables (written.type_and t ts) = type_and (type_in g variables t) (types_in g variables ts)
