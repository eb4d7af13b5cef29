-- Groups of lists of bindings.
use Rattle.std.proofs.Common.{◌≡◌, List, [], ◌∷◌, ◌++◌, refl, ap}
use Rattle.chw_terms.specs.declared.term.Binding.{Binding}
use Rattle.chw_terms.specs.TermTree.{bind}
use Rattle.chw_terms.specs.TermView.{group_of}
use Rattle.chw_typing.specs.Groups.{joined}

pub group_joined : (xs ys : List Binding) → group_of (xs ++ ys) ≡ joined (group_of xs) (group_of ys)
group_joined [] ys = refl
group_joined (b ∷ xs) ys = ap (bind b.ty b.body) (group_joined xs ys)
