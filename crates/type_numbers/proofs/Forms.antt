-- Nodes of the forms of types.
use Rattle.std.proofs.Common.{◌≡◌, ℕ, ◌+◌, ◌<◌, List, [], ◌∷◌, ◌++◌, length, take, get_or, Some, slice_get, refl, sym, ap, ◌∙◌}
use Rattle.std.proofs.lemmas.List.{take_more}
use Rattle.chw_types.specs.TypeTree.{TypeTree, data_of, type_and}
use Rattle.chw_types.specs.TypeView.{trees_of}
use Rattle.type_numbers.specs.Nodes.{IsNode, Grows, and_last, pair, pair_of}
use Rattle.type_numbers.specs.declared.node.Node.TheVariants.{OfPair}
use Rattle.type_numbers.specs.declared.node.Pair.TheVariants.{Applied}

-- a type of two parts, the second of which was put in after the first
pub pair_node : (ts us : List TypeTree) (t a b : TypeTree) (i j : ℕ) → pair (pair_of t) a b ≡ t → slice_get ts i ≡ Some a → Grows ts us → slice_get us j ≡ Some b → IsNode us (OfPair (pair_of t) i j) t
pair_node ts us t a b i j is at grown there = (a, b, grown i a at, there, sym is)

-- a list of arguments with one more
last_of_trees : (ts : List TypeTree) (u : TypeTree) → trees_of (ts ++ u ∷ []) ≡ and_last (trees_of ts) u
last_of_trees [] u = refl
last_of_trees (t ∷ ts) u = ap (type_and t) (last_of_trees ts u)

-- a data type at one more argument
pub applied_node : (ts us : List TypeTree) (d i j : ℕ) (args : List TypeTree) (u : TypeTree) → slice_get ts i ≡ Some (data_of d (trees_of args)) → Grows ts us → slice_get us j ≡ Some u → IsNode us (OfPair Applied i j) (data_of d (trees_of (args ++ u ∷ [])))
applied_node ts us d i j args u at grown there =
    (data_of d (trees_of args), u, grown i (data_of d (trees_of args)) at, there, ap (data_of d) (last_of_trees args u))

-- the arguments so far, with the next one
pub next_taken : (ts : List TypeTree) (i : ℕ) (u d : TypeTree) → i < length ts → u ≡ get_or ts i d → take (i + 1) ts ≡ take i ts ++ u ∷ []
next_taken ts i u d l is = take_more ts i d l ∙ ap (λ v. take i ts ++ v ∷ []) (sym is)
