-- Chains made part by part.
use Rattle.std.proofs.Common.{◌≡◌, ℕ, ◌+◌, ◌<◌, ◌≤◌, List, [], ◌∷◌, ◌++◌, length, get_or, take, map, Option, Some, None, refl, sym, ap, ◌∙◌}
use Rattle.std.specs.Option.{unwrap_or}
use Rattle.std.proofs.lemmas.List.{map-append, take_all, take_more}
use Rattle.chw_types.specs.TypeTree.{TypeTree, nat_lit}
use Rattle.chw_types.specs.TypeView.{trees_of}
use Rattle.chw_resolve.specs.Types.{chain, chain_of}
use Rattle.chw_resolve.specs.Walks.{next_in}

-- the chain of these parts, where there is one
abbrev pub chain_so_far : (TypeTree → TypeTree → TypeTree) → List TypeTree → Option TypeTree
chain_so_far join [] = None
chain_so_far join (t ∷ ts) = Some (chain join t (trees_of ts))

chain_last : (join : TypeTree → TypeTree → TypeTree) (t : TypeTree) (ts : List TypeTree) (u : TypeTree) → chain join t (trees_of (ts ++ u ∷ [])) ≡ join (chain join t (trees_of ts)) u
chain_last join t [] u = refl
chain_last join t (v ∷ ts) u = chain_last join (join t v) ts u

one_more : (join : TypeTree → TypeTree → TypeTree) (ts : List TypeTree) (u : TypeTree) → chain_so_far join (ts ++ u ∷ []) ≡ Some (next_in join (chain_so_far join ts) u)
one_more join [] u = refl
one_more join (t ∷ ts) u = ap (λ (v : TypeTree). Some v) (chain_last join t ts u)

whole : (join : TypeTree → TypeTree → TypeTree) (ts : List TypeTree) → unwrap_or (chain_so_far join ts) (nat_lit 0) ≡ chain_of join (trees_of ts)
whole join [] = refl
whole join (t ∷ ts) = refl

-- the chain of the items so far with one more
pub chain_more : {X : Type 0} (join : TypeTree → TypeTree → TypeTree) (f : X → TypeTree) (xs : List X) (i : ℕ) (x : X) (t made : TypeTree) {so_far : Option TypeTree} → i < length xs → x ≡ get_or xs i x
    → so_far ≡ chain_so_far join (map f (take i xs)) → t ≡ f x → made ≡ next_in join so_far t → Some made ≡ chain_so_far join (map f (take (i + 1) xs))
chain_more {X = X} join f xs i x t made lt is before at next =
    ap (λ (v : TypeTree). Some v) (next ∙ (λ j. next_in join (before j) (at j)))
    ∙ sym (one_more join (map f (take i xs)) (f x))
    ∙ ap (λ (v : X). chain_so_far join (map f (take i xs) ++ f v ∷ [])) is
    ∙ ap (chain_so_far join) (sym (map-append f (take i xs) (get_or xs i x ∷ [])) ∙ ap (map f) (sym (take_more xs i x lt)))

-- the chain of all items
pub chain_all : {X : Type 0} (join : TypeTree → TypeTree → TypeTree) (f : X → TypeTree) (xs : List X) (i : ℕ) {so_far : Option TypeTree} → length xs ≤ i
    → so_far ≡ chain_so_far join (map f (take i xs)) → unwrap_or so_far (nat_lit 0) ≡ chain_of join (trees_of (map f xs))
chain_all join f xs i le before =
    ap (λ (o : Option TypeTree). unwrap_or o (nat_lit 0)) (before ∙ ap (λ ys. chain_so_far join (map f ys)) (take_all i xs le)) ∙ whole join (map f xs)
