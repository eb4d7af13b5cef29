-- The arguments of a data type lead no farther than the whole, and are smaller.
use Rattle.std.proofs.Common.{ℕ, ◌+◌, ◌≤◌, inl, inr, List, [], ◌∷◌, arith}
use Rattle.chw_types.specs.declared.declarations.Data.{Data}
use Rattle.chw_types.specs.TypeTree.{TypeTree, data_of}
use Rattle.chw_types.specs.TypeView.{trees_of}
use Rattle.chw_types.specs.TypeSize.{tree_size}
use Rattle.chw_types.specs.References.{MentionsAny, MentionedIn}
use Rattle.chw_layout.specs.Outcomes.{Reaches, AllReach}
use Rattle.chw_layout.specs.Sizes.{fields_size}

mentioned_any : (ts : List TypeTree) (d : ℕ) → MentionedIn ts d → MentionsAny (trees_of ts) d
mentioned_any [] d m = m
mentioned_any (t ∷ ts) d (inl m) = inl m
mentioned_any (t ∷ ts) d (inr m) = inr (mentioned_any ts d m)

pub reach_arguments : (datas : List Data) (n x : ℕ) (ts : List TypeTree) → Reaches datas n (data_of x (trees_of ts)) → AllReach datas n ts
reach_arguments datas n x ts h = λ d m. h d (inr (mentioned_any ts d m))

pub size_of_arguments : (x : ℕ) (ts : List TypeTree) → fields_size ts ≤ tree_size (data_of x (trees_of ts))
size_of_arguments x [] = omega arith
size_of_arguments x (t ∷ ts) = let w = size_of_arguments x ts in omega arith
