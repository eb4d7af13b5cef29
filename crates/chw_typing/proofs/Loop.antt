-- What the loop over the arguments of a data type owes.
use Rattle.std.proofs.Common.{◌≡◌, ℕ, ◌≤◌, take, List, [], ◌∷◌, map, length, refl, ap, ◌∙◌}
use Rattle.std.proofs.lemmas.List.{take_all}
use Rattle.chw_types.specs.TypeTree.{TypeTree, data_of, type_and}
use Rattle.chw_types.specs.TypeView.{trees_of}
use Rattle.chw_typing.specs.WithoutZeros.{without_zeros, all_without_zeros}

each_left : (ts : List TypeTree) → trees_of (map without_zeros ts) ≡ all_without_zeros (trees_of ts)
unfolding without_zeros
each_left [] = refl
each_left (t ∷ ts) = ap (type_and (without_zeros t)) (each_left ts)

pub data_left : (ts done : List TypeTree) (d i : ℕ) → done ≡ map without_zeros (take i ts) → length ts ≤ i → data_of d (trees_of done) ≡ without_zeros (data_of d (trees_of ts))
unfolding without_zeros
data_left ts done d i e all = ap (λ us. data_of d (trees_of us)) (e ∙ ap (map without_zeros) (take_all i ts all)) ∙ ap (data_of d) (each_left ts)
