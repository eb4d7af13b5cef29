-- The types of bindings.
use Rattle.std.proofs.Common.{◌≡◌, ap, refl, List, [], ◌∷◌, map}
use Rattle.chw_terms.specs.declared.term.Binding.{Binding}
use Rattle.chw_terms.specs.TermView.{group_of}
use Rattle.chw_typing.specs.Scopes.{declared}

pub types_declared : (bs : List Binding) → map (λ (b : Binding). b.ty) bs ≡ declared (group_of bs)
types_declared [] = refl
types_declared (b ∷ bs) = ap (λ ts. b.ty ∷ ts) (types_declared bs)
