-- Which types have which kinds.
use Rattle.std.specs.Prelude.{◌≡◌, ℕ, ◌+◌, ◌<◌, ◌≤◌, List, [], ◌∷◌, Some, max}
use Rattle.std.specs.List.{slice_get}
use Rattle.chw_types.specs.declared.kind.Kind.{Kind}
use Rattle.chw_types.specs.declared.kind.Kind.TheVariants.{Nat, Dom, Val, Cir}
use Rattle.chw_types.specs.declared.kind.Scalar.{Scalar}
use Rattle.chw_types.specs.declared.declarations.Data.{Data}
use Rattle.chw_types.specs.TypeTree.{TypeTree, ty_var, nat_lit, nat_sum, nat_product, domain, scalar, vector, data_of, fun, signal, for_all, TypeTrees, no_types, type_and}

-- the degree of a natural, as of a polynomial in its variables; 0 of any other type
abbrev pub degree : TypeTree → ℕ
degree (ty_var x) = 1
degree (nat_sum a b) = max (degree a) (degree b)
degree (nat_product a b) = degree a + degree b
degree _ = 0

-- the greatest degree of a natural that has a kind
abbrev pub most_degree : ℕ
most_degree = 4

-- the kinds of the types that terms have
abbrev pub IsOfTerms : Kind → Type 0
IsOfTerms Val = Unit {0}
IsOfTerms Cir = Unit {0}
IsOfTerms _ = ⊥

-- there are functions from values to values and to circuits, and from circuits to circuits
abbrev pub HasFunctions : Kind → Kind → Type 0
HasFunctions Val Val = Unit {0}
HasFunctions Val Cir = Unit {0}
HasFunctions Cir Cir = Unit {0}
HasFunctions _ _ = ⊥

mutual
  -- over these data types and so many domains, with variables of these kinds (the innermost first), the type has the kind
  pub data KindOf (datas : List Data) (domains : ℕ) : List Kind → TypeTree → Kind → Type 0 where
    kind_var : {scope : List Kind} {x : ℕ} {k : Kind} → slice_get scope x ≡ Some k → KindOf datas domains scope (ty_var x) k
    kind_nat : {scope : List Kind} {n : ℕ} → KindOf datas domains scope (nat_lit n) Nat
    kind_sum : {scope : List Kind} {a b : TypeTree} → KindOf datas domains scope a Nat → KindOf datas domains scope b Nat → degree (nat_sum a b) ≤ most_degree → KindOf datas domains scope (nat_sum a b) Nat
    kind_product : {scope : List Kind} {a b : TypeTree} → KindOf datas domains scope a Nat → KindOf datas domains scope b Nat → degree (nat_product a b) ≤ most_degree → KindOf datas domains scope (nat_product a b) Nat
    kind_domain : {scope : List Kind} {d : ℕ} → d < domains → KindOf datas domains scope (domain d) Dom
    kind_scalar : {scope : List Kind} {s : Scalar} {w : TypeTree} → KindOf datas domains scope w Nat → KindOf datas domains scope (scalar s w) Val
    kind_vector : {scope : List Kind} {n t : TypeTree} {k : Kind} → KindOf datas domains scope n Nat → KindOf datas domains scope t k → IsOfTerms k → KindOf datas domains scope (vector n t) k
    kind_data : {scope : List Kind} {d : ℕ} {it : Data} {ts : TypeTrees} → slice_get datas d ≡ Some it → KindsOf datas domains scope ts it.params → KindOf datas domains scope (data_of d ts) it.kind
    kind_fun : {scope : List Kind} {a b : TypeTree} {j k : Kind} → KindOf datas domains scope a j → KindOf datas domains scope b k → HasFunctions j k → KindOf datas domains scope (fun a b) k
    kind_signal : {scope : List Kind} {d t : TypeTree} → KindOf datas domains scope d Dom → KindOf datas domains scope t Val → KindOf datas domains scope (signal d t) Cir
    kind_for_all : {scope : List Kind} {j k : Kind} {t : TypeTree} → KindOf datas domains (j ∷ scope) t k → IsOfTerms k → KindOf datas domains scope (for_all j t) k

  -- these are as many types as kinds, and each has its kind
  pub data KindsOf (datas : List Data) (domains : ℕ) : List Kind → TypeTrees → List Kind → Type 0 where
    no_kinds : {scope : List Kind} → KindsOf datas domains scope no_types []
    kind_and : {scope : List Kind} {t : TypeTree} {ts : TypeTrees} {k : Kind} {ks : List Kind} → KindOf datas domains scope t k → KindsOf datas domains scope ts ks → KindsOf datas domains scope (type_and t ts) (k ∷ ks)

-- the type has no kind
abbrev pub HasNoKind : List Data → ℕ → List Kind → TypeTree → Type 0
HasNoKind datas domains scope t = (k : Kind) → KindOf datas domains scope t k → ⊥
