-- Types by number, and how each is made of others.
use Rattle.std.specs.Prelude.{◌≡◌, ℕ, List, [], ◌∷◌, ◌++◌, Some, get_or}
use Rattle.std.specs.List.{slice_get}
use Rattle.chw_types.specs.declared.kind.Scalar.{Scalar}
use Rattle.chw_types.specs.declared.kind.Scalar.TheVariants.{B}
use Rattle.chw_types.specs.TypeTree.{TypeTree, ty_var, nat_lit, nat_sum, nat_product, domain}
use Rattle.chw_types.specs.TypeTree.{scalar, vector, data_of, fun, signal, for_all}
use Rattle.chw_types.specs.TypeTree.{TypeTrees, no_types, type_and}
use Rattle.type_numbers.specs.declared.node.Node.{Node}
use Rattle.type_numbers.specs.declared.node.Node.TheVariants.{Alone, OfScalar, OfForall, OfPair}
use Rattle.type_numbers.specs.declared.node.Alone.{Alone as AloneForm}
use Rattle.type_numbers.specs.declared.node.Alone.TheVariants.{Var, NatLit, Domain, Data}
use Rattle.type_numbers.specs.declared.node.Pair.{Pair}
use Rattle.type_numbers.specs.declared.node.Pair.TheVariants.{Sum, Times, Vec as VecForm, Fun}
use Rattle.type_numbers.specs.declared.node.Pair.TheVariants.{Signal, Applied}

-- the sort of a scalar, and `B` of any other type
abbrev pub sort_of : TypeTree → Scalar
sort_of (scalar s w) = s
sort_of _ = B

-- the form of a type of two parts, and that of signals for any other
abbrev pub pair_of : TypeTree → Pair
pair_of (nat_sum a b) = Sum
pair_of (nat_product a b) = Times
pair_of (vector n t) = VecForm
pair_of (fun a b) = Fun
pair_of _ = Signal

-- a list of arguments with one more at its end
abbrev pub and_last : TypeTrees → TypeTree → TypeTrees
and_last no_types u = type_and u no_types
and_last (type_and t ts) u = type_and t (and_last ts u)

-- a data type at one more argument, and signals for any other type
abbrev pub at_one_more : TypeTree → TypeTree → TypeTree
at_one_more (data_of d ts) u = data_of d (and_last ts u)
at_one_more t u = signal t u

-- the type of the form and of this number
abbrev pub alone : AloneForm → ℕ → TypeTree
alone Var n = ty_var n
alone NatLit n = nat_lit n
alone Domain n = domain n
alone Data n = data_of n no_types

-- the type of the form and of these two parts
abbrev pub pair : Pair → TypeTree → TypeTree → TypeTree
pair Sum a b = nat_sum a b
pair Times a b = nat_product a b
pair VecForm a b = vector a b
pair Fun a b = fun a b
pair Signal a b = signal a b
pair Applied a b = at_one_more a b

-- the type is made like this of the types of these numbers
abbrev pub IsNode : List TypeTree → Node → TypeTree → Type 0
IsNode ts (Alone f n) t = t ≡ alone f n
IsNode ts (OfScalar s i) t = (w : TypeTree) × (slice_get ts i ≡ Some w) × (t ≡ scalar s w)
IsNode ts (OfForall k i) t = (u : TypeTree) × (slice_get ts i ≡ Some u) × (t ≡ for_all k u)
IsNode ts (OfPair f i j) t =
    (a b : TypeTree) × (slice_get ts i ≡ Some a) × (slice_get ts j ≡ Some b) × (t ≡ pair f a b)

-- the type of this number
abbrev pub type_at : List TypeTree → ℕ → TypeTree
type_at ts i = get_or ts i (nat_lit 0)

-- the type that is made like this of the types of these numbers
abbrev pub made_of : List TypeTree → Node → TypeTree
made_of ts (Alone f n) = alone f n
made_of ts (OfScalar s i) = scalar s (type_at ts i)
made_of ts (OfForall k i) = for_all k (type_at ts i)
made_of ts (OfPair f i j) = pair f (type_at ts i) (type_at ts j)

-- these types, and those that are made like this in turn, each of those before it
abbrev pub types_after : List TypeTree → List Node → List TypeTree
types_after ts [] = ts
types_after ts (n ∷ ns) = types_after (ts ++ made_of ts n ∷ []) ns

abbrev pub types_of : List Node → List TypeTree
types_of ns = types_after [] ns

-- at each number is the type that is made like this
abbrev pub AreNodes : List Node → Type 0
AreNodes ns =
    (i : ℕ) (n : Node) → slice_get ns i ≡ Some n
    → (t : TypeTree) × (slice_get (types_of ns) i ≡ Some t) × IsNode (types_of ns) n t

-- each type has the number that it had
abbrev pub Grows : List TypeTree → List TypeTree → Type 0
Grows ts us = (i : ℕ) (t : TypeTree) → slice_get ts i ≡ Some t → slice_get us i ≡ Some t

-- no type of functions has this number
abbrev pub HasNoFunction : List TypeTree → ℕ → Type 0
HasNoFunction ts i = (a b : TypeTree) → slice_get ts i ≡ Some (fun a b) → ⊥
