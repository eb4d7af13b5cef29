-- How a table of types grows by a node.
use Rattle.std.proofs.Common.{◌≡◌, ℕ, suc, ◌+◌, inl, inr, Bool, true, false, cond, List, [], ◌∷◌, ◌++◌, length, Some, slice_get, refl, sym, ap, ◌∙◌, subst, arith}
use Rattle.std.proofs.lemmas.Option.{get_or_from_slice_get}
use Rattle.chw_types.specs.TypeTree.{TypeTree, nat_lit, scalar, for_all}
use Rattle.type_numbers.specs.Nodes.{IsNode, AreNodes, Grows, made_of, types_after, types_of, pair, type_at}
use Rattle.type_numbers.specs.declared.node.Node.{Node}
use Rattle.type_numbers.specs.declared.node.Node.TheVariants.{Alone, OfScalar, OfForall, OfPair}
use Rattle.type_numbers.proofs.Lists.{get_left, get_last, get_either}

-- the type at a number that is there
at_number : (ts : List TypeTree) (i : ℕ) (t : TypeTree) → slice_get ts i ≡ Some t → type_at ts i ≡ t
at_number ts i t e = get_or_from_slice_get ts i t (nat_lit 0) e

-- what a node says is what is made
pub made_like : (ts : List TypeTree) (n : Node) (t : TypeTree) → IsNode ts n t → made_of ts n ≡ t
made_like ts (Alone f n) t h = sym h
made_like ts (OfScalar s i) t h = ap (scalar s) (at_number ts i h.0 h.1) ∙ sym h.2
made_like ts (OfForall k i) t h = ap (for_all k) (at_number ts i h.0 h.1) ∙ sym h.2
made_like ts (OfPair f i j) t h =
    ap (λ a. pair f a (type_at ts j)) (at_number ts i h.0 h.2) ∙ ap (pair f h.0) (at_number ts j h.1 h.3) ∙ sym h.4

-- and it says it still when there are more types
pub like_grown : (ts us : List TypeTree) (n : Node) (t : TypeTree) → Grows ts us → IsNode ts n t → IsNode us n t
like_grown ts us (Alone f n) t g h = h
like_grown ts us (OfScalar s i) t g h = (h.0, g i h.0 h.1, h.2)
like_grown ts us (OfForall k i) t g h = (h.0, g i h.0 h.1, h.2)
like_grown ts us (OfPair f i j) t g h = (h.0, h.1, g i h.0 h.2, g j h.1 h.3, h.4)

pub grows_not : (ts : List TypeTree) → Grows ts ts
grows_not ts i t e = e

pub grows_by : (ts us : List TypeTree) → Grows ts (ts ++ us)
grows_by ts us i t e = get_left ts us i t e

pub grows_on : (ts us vs : List TypeTree) → Grows ts us → Grows us vs → Grows ts vs
grows_on ts us vs g h i t e = h i t (g i t e)

-- one more node makes one more type
after_last : (ts : List TypeTree) (ns : List Node) (n : Node) → types_after ts (ns ++ n ∷ []) ≡ types_after ts ns ++ made_of (types_after ts ns) n ∷ []
after_last ts [] n = refl
after_last ts (m ∷ ns) n = after_last (ts ++ made_of ts m ∷ []) ns n

pub types_last : (ns : List Node) (n : Node) (t : TypeTree) → IsNode (types_of ns) n t → types_of (ns ++ n ∷ []) ≡ types_of ns ++ t ∷ []
types_last ns n t h = after_last [] ns n ∙ ap (λ u. types_of ns ++ u ∷ []) (made_like (types_of ns) n t h)

length_last : {X : Type 0} (xs : List X) (x : X) → length (xs ++ x ∷ []) ≡ suc (length xs)
length_last [] x = refl
length_last (y ∷ xs) x = ap suc (length_last xs x)

-- there are as many types as nodes
after_length : (ts : List TypeTree) (ns : List Node) → length (types_after ts ns) ≡ length ts + length ns
after_length ts [] = omega arith
after_length ts (n ∷ ns) =
    let more = after_length (ts ++ made_of ts n ∷ []) ns in
    let one = length_last ts (made_of ts n) in
    omega (arith, more, one)

pub as_many : (ns : List Node) → length (types_of ns) ≡ length ns
as_many ns = let e = after_length [] ns in let n : length {A = TypeTree} [] ≡ 0 = refl in omega (arith, e, n)

-- the nodes of a table, with one more
pub nodes_last : (ns : List Node) (n : Node) (t : TypeTree) → AreNodes ns → IsNode (types_of ns) n t → AreNodes (ns ++ n ∷ [])
nodes_last ns n t h is i m e =
    let last = types_last ns n t is in
    let grown : Grows (types_of ns) (types_of (ns ++ n ∷ [])) = subst (Grows (types_of ns)) (sym last) (grows_by (types_of ns) (t ∷ [])) in
    elim (get_either ns n i m e) [
      | inl old ↦ let at = h i m old in (at.0, grown i at.0 at.1, like_grown (types_of ns) (types_of (ns ++ n ∷ [])) m at.0 grown at.2)
      | inr new ↦
          let there : slice_get (types_of ns ++ t ∷ []) i ≡ Some t =
          subst (λ k. slice_get (types_of ns ++ t ∷ []) k ≡ Some t) (as_many ns ∙ sym new.0) (get_last (types_of ns) t) in (
            t,
            subst (λ ts. slice_get ts i ≡ Some t) (sym last) there,
            subst (λ p. IsNode (types_of (ns ++ n ∷ [])) p t) new.1 (like_grown (types_of ns) (types_of (ns ++ n ∷ [])) n t grown is),
          )
    ]

-- the nodes of a table into which one was put, and the types
pub nodes_put : (ns new : List Node) (n : Node) (b : Bool) (t : TypeTree) → new ≡ cond b ns (ns ++ n ∷ []) → AreNodes ns → IsNode (types_of ns) n t → AreNodes new
nodes_put ns new n true t e h is = subst AreNodes (sym e) h
nodes_put ns new n false t e h is = subst AreNodes (sym e) (nodes_last ns n t h is)

pub types_put : (ns new : List Node) (n : Node) (b : Bool) (t : TypeTree) → new ≡ cond b ns (ns ++ n ∷ []) → IsNode (types_of ns) n t → Grows (types_of ns) (types_of new)
types_put ns new n true t e is = subst (λ ms. Grows (types_of ns) (types_of ms)) (sym e) (grows_not (types_of ns))
types_put ns new n false t e is =
    subst (λ ms. Grows (types_of ns) (types_of ms)) (sym e) (subst (Grows (types_of ns)) (sym (types_last ns n t is)) (grows_by (types_of ns) (t ∷ [])))

-- the type at the number of a node is what the node says
pub number_told : (old : List TypeTree) (new : List Node) (n k : Node) (i : ℕ) (t : TypeTree) → AreNodes new → slice_get new i ≡ Some k → n ≡ k → Grows old (types_of new) → IsNode old n t → slice_get (types_of new) i ≡ Some t
number_told old new n k i t h at same grown is =
    let ts = types_of new in
    let there = h i k at in
    let one : there.0 ≡ t =
    sym (made_like ts k there.0 there.2) ∙ ap (made_of ts) (sym same) ∙ made_like ts n t (like_grown old ts n t grown is) in
    subst (λ u. slice_get ts i ≡ Some u) one there.1
