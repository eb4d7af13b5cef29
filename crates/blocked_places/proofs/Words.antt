-- The width of a word as the one size of its type.
use Rattle.std.proofs.Common.{◌≡◌, ◌⊎◌, inl, inr, ap, [], ◌∷◌, Box, Global}
use Rattle.chw_types.specs.declared.ty.Ty.{Ty}
use Rattle.chw_types.specs.declared.ty.TyNode.{TyNode}
use Rattle.chw_types.specs.declared.ty.TyNode.TheVariants.{Unsigned, Signed, BitVector}
use Rattle.chw_types.specs.TypeView.{tree_of}
use Rattle.normal_forms.specs.Blocked.{of_word, sizes_in}

pub size_of_word : (n : TyNode) (k : Box Ty Global)
    → (n ≡ Unsigned k) ⊎ ((n ≡ Signed k) ⊎ (n ≡ BitVector k))
    → sizes_in (tree_of n) ≡ of_word k.value ∷ []
size_of_word n k (inl e) = ap (λ m. sizes_in (tree_of m)) e
size_of_word n k (inr (inl e)) = ap (λ m. sizes_in (tree_of m)) e
size_of_word n k (inr (inr e)) = ap (λ m. sizes_in (tree_of m)) e
