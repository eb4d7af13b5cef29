-- Lists of bindings and the groups that they are.
use Rattle.std.proofs.Common.{◌≡◌, suc, List, [], ◌∷◌, length, refl, ap}
use Rattle.chw_terms.specs.declared.term.Binding.{Binding}
use Rattle.chw_terms.specs.TermTree.{size_of}
use Rattle.chw_terms.specs.TermView.{group_of}

pub size_of_group : (bs : List Binding) → size_of (group_of bs) ≡ length bs
size_of_group [] = refl
size_of_group (b ∷ bs) = ap suc (size_of_group bs)
