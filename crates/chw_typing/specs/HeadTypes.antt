-- The types of constructors, of literals, and of what patterns bind.
use Rattle.std.specs.Prelude.{◌≡◌, ℕ, suc, zero, ◌≤◌, Bool, List, [], ◌∷◌, map, length, Some}
use Rattle.chw_base.specs.declared.limits.TheConstants.{SCALAR_BITS}
use Rattle.chw_base.specs.declared.index.ConId.{ConId}
use Rattle.chw_types.specs.declared.kind.Kind.{Kind}
use Rattle.chw_types.specs.declared.kind.Scalar.{Scalar}
use Rattle.chw_types.specs.declared.declarations.Data.{Data}
use Rattle.chw_types.specs.TypeTree.{TypeTree, ty_var, nat_lit, scalar, data_of, fun, for_all, TypeTrees, no_types, type_and}
use Rattle.chw_types.specs.TypeMoves.{sub}
use Rattle.chw_types.specs.Arguments.{arguments}
use Rattle.chw_types.specs.SameTypes.{SameTypes}
use Rattle.chw_terms.specs.declared.term.Pattern.{Pattern}
use Rattle.chw_terms.specs.declared.term.Pattern.TheVariants.{OfCon, OfLit, Default}
use Rattle.chw_terms.specs.Constructors.{Constructor, con_at}

-- for all types of these kinds, the first one outermost
abbrev pub for_each : List Kind → TypeTree → TypeTree
for_each [] t = t
for_each (k ∷ ks) t = for_all k (for_each ks t)

-- a function of values of these types, the first one first
abbrev pub from_each : List TypeTree → TypeTree → TypeTree
from_each [] t = t
from_each (a ∷ more) t = fun a (from_each more t)

-- the type variables of so many binders, the outermost first
abbrev pub variables : ℕ → TypeTrees
variables zero = no_types
variables (suc n) = type_and (ty_var n) (variables n)

-- a constructor takes its data type's arguments, then its fields, and gives the data type
abbrev pub con_type : Constructor → TypeTree
con_type c = for_each c.it.params (from_each c.decl.fields (data_of c.of (variables (length c.it.params))))

-- the greatest width of a literal
abbrev pub widest : ℕ
widest = SCALAR_BITS

-- a literal's type; its bits are as many as its width, so that its value is in range
abbrev pub literal_type : Scalar → List Bool → TypeTree
literal_type s bits = scalar s (nat_lit (length bits))

-- a case may look at values of this type
abbrev pub IsLookedAt : TypeTree → Type 0
IsLookedAt (scalar s w) = Unit {0}
IsLookedAt (data_of d ts) = Unit {0}
IsLookedAt _ = ⊥

-- a constructor's fields at these arguments of its data type
abbrev pub fields_at : Constructor → TypeTrees → List TypeTree
fields_at c ts = map (λ f. sub f (arguments ts)) c.decl.fields

-- the pattern is one for values of the type, and binds variables of these types, the first one first
pub data PatternOf (datas : List Data) : TypeTree → Pattern → List TypeTree → Type 0 where
  -- as many names as fields
  of_con : {d n : ℕ} {c : ConId} {ts : TypeTrees} (it : Constructor) → con_at datas c.number ≡ Some it → it.of ≡ d → length it.decl.fields ≡ n → PatternOf datas (data_of d ts) (OfCon c n) (fields_at it ts)
  of_lit : {s : Scalar} {w : TypeTree} {bits : List Bool} → length bits ≤ widest → SameTypes w (nat_lit (length bits)) → PatternOf datas (scalar s w) (OfLit s bits) []
  of_any : {t : TypeTree} → PatternOf datas t Default []
