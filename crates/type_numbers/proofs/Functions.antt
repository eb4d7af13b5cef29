-- Which numbers types of functions have.
use Rattle.std.proofs.Common.{◌≡◌, ◌<◌, ℕ, List, length, Some, None, inl, inr, slice_get, refl, sym, ◌∙◌, subst, arith}
use Rattle.std.proofs.lemmas.Option.{slice_get_cases, slice_get_within, same_Some}
use Rattle.chw_types.specs.TypeTree.{TypeTree, fun, data_of}
use Rattle.type_numbers.specs.Nodes.{IsNode, AreNodes, types_of, at_one_more, HasNoFunction}
use Rattle.type_numbers.specs.declared.node.Node.{Node}
use Rattle.type_numbers.specs.declared.node.Node.TheVariants.{Alone, OfScalar, OfForall, OfPair}
use Rattle.type_numbers.specs.declared.node.Alone.TheVariants.{Var, NatLit, Domain, Data}
use Rattle.type_numbers.specs.declared.node.Pair.TheVariants.{Sum, Times, Vec as VecForm, Fun, Signal, Applied}
use Rattle.type_numbers.proofs.Nodes.{as_many}

-- a type at one more argument is no type of functions
no_applied : (t u a b : TypeTree) → fun a b ≡ at_one_more t u → ⊥
no_applied (data_of d ts) u a b e = absurd (cc)
no_applied _ u a b e = absurd (cc)

-- a type of functions is made as one
pub as_function : (ts : List TypeTree) (n : Node) (a b : TypeTree) → IsNode ts n (fun a b) → (i j : ℕ) × (n ≡ OfPair Fun i j)
as_function ts (Alone Var m) a b h = absurd (cc)
as_function ts (Alone NatLit m) a b h = absurd (cc)
as_function ts (Alone Domain m) a b h = absurd (cc)
as_function ts (Alone Data m) a b h = absurd (cc)
as_function ts (OfScalar s i) a b h = let e = h.2 in absurd (cc)
as_function ts (OfForall k i) a b h = let e = h.2 in absurd (cc)
as_function ts (OfPair Sum i j) a b h = let e = h.4 in absurd (cc)
as_function ts (OfPair Times i j) a b h = let e = h.4 in absurd (cc)
as_function ts (OfPair VecForm i j) a b h = let e = h.4 in absurd (cc)
as_function ts (OfPair Fun i j) a b h = (i, j, refl)
as_function ts (OfPair Signal i j) a b h = let e = h.4 in absurd (cc)
as_function ts (OfPair Applied i j) a b h = absurd (no_applied h.0 h.1 a b h.4)

-- where another node is, there is no type of functions
pub no_function : (ns : List Node) (i : ℕ) (n : Node) → AreNodes ns → slice_get ns i ≡ Some n → ((j k : ℕ) → n ≡ OfPair Fun j k → ⊥) → HasNoFunction (types_of ns) i
no_function ns i n h at other a b is =
    let there = h i n at in
    let one : there.0 ≡ fun a b = same_Some there.0 (fun a b) (sym there.1 ∙ is) in
    let made = as_function (types_of ns) n a b (subst (IsNode (types_of ns) n) one there.2) in
    other made.0 made.1 made.2

-- and where none is
pub nothing_there : (ns : List Node) (i : ℕ) → slice_get ns i ≡ None → HasNoFunction (types_of ns) i
nothing_there ns i at a b is =
    let within : i < length (types_of ns) = slice_get_within (types_of ns) i (fun a b) is in
    let many = as_many ns in
    elim (slice_get_cases ns i).1 [
      | inl x ↦ absurd (cc)
      | inr p ↦ omega (arith, within, many, p.0)
    ]
