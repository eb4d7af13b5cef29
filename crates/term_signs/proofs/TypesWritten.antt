-- The signs of types, by their forms.
use Rattle.std.proofs.Common.{◌≡◌, ◌∙◌, ap, refl, ℕ, List, [], ◌∷◌, ◌++◌, append_assoc}
use Rattle.std.specs.List.{flat_map}
use Rattle.chw_types.specs.declared.kind.Kind.{Kind}
use Rattle.chw_types.specs.Forms.{sort_of}
use Rattle.chw_types.specs.TypeTree.{TypeTree, data_of, for_all}
use Rattle.chw_types.specs.TypeView.{trees_of}
use Rattle.term_signs.specs.declared.alphabet.Form.TheVariants.{Word, Data, ForAll, OneType, NoTypes}
use Rattle.term_signs.specs.declared.alphabet.Sign.{Sign}
use Rattle.term_signs.specs.declared.alphabet.Sign.TheVariants.{Of, Number, OfKind, OfSort}
use Rattle.term_signs.specs.TypeSigns.{pair_form, type_signs, types_signs}

-- a type in a list
abbrev pub one_type : TypeTree → List Sign
one_type t = Of OneType ∷ type_signs t

types_in_list : (ts : List TypeTree) → flat_map one_type ts ++ Of NoTypes ∷ [] ≡ types_signs (trees_of ts)
unfolding type_signs
types_in_list [] = refl
types_in_list (t ∷ ts) = append_assoc (one_type t) (flat_map one_type ts) (Of NoTypes ∷ []) ∙ ap (λ ss. one_type t ++ ss) (types_in_list ts)

pub data_written : (d : ℕ) (ts : List TypeTree) → (Of Data ∷ Number d ∷ []) ++ (flat_map one_type ts ++ Of NoTypes ∷ []) ≡ type_signs (data_of d (trees_of ts))
unfolding type_signs
data_written d ts = ap (λ ss. Of Data ∷ Number d ∷ ss) (types_in_list ts)

pub bound_written : (k : Kind) (t : TypeTree) → (Of ForAll ∷ OfKind k ∷ []) ++ type_signs t ≡ type_signs (for_all k t)
unfolding type_signs
bound_written k t = refl
