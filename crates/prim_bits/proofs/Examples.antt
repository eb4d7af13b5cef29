-- Values worked by hand.
use Rattle.std.proofs.Common.{◌≡◌, true, [], ◌∷◌, Some, None, refl}
use Rattle.chw_bits.specs.Bits.{bits_of}
use Rattle.chw_prims.specs.declared.prim.Primitive.TheVariants.{XaddU, MulS, ShrS, Slice, ExtS, AddU, RedAnd, Fmap}
use Rattle.prim_bits.specs.Values.{value_of}

exact_sum : value_of XaddU (8 ∷ []) (bits_of 8 255 ∷ bits_of 8 255 ∷ []) ≡ Some (bits_of 9 510)
exact_sum = refl

signed_product : value_of MulS (4 ∷ []) (bits_of 4 13 ∷ bits_of 4 7 ∷ []) ≡ Some (bits_of 4 11)
signed_product = refl

signed_shift : value_of ShrS (4 ∷ 2 ∷ []) (bits_of 4 13 ∷ bits_of 2 1 ∷ []) ≡ Some (bits_of 4 14)
signed_shift = refl

middle_bits : value_of Slice (1 ∷ 3 ∷ 4 ∷ []) (bits_of 8 165 ∷ []) ≡ Some (bits_of 3 2)
middle_bits = refl

extended_nothing : value_of ExtS (0 ∷ 4 ∷ []) ([] ∷ []) ≡ Some (bits_of 4 0)
extended_nothing = refl

no_bits_all_set : value_of RedAnd (0 ∷ []) ([] ∷ []) ≡ Some (true ∷ [])
no_bits_all_set = refl

words_of_another_width : value_of AddU (8 ∷ []) (bits_of 8 1 ∷ bits_of 7 1 ∷ []) ≡ None
words_of_another_width = refl

not_on_words : value_of Fmap [] [] ≡ None
not_on_words = refl
