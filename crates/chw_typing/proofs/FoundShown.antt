-- The examples hold.
use Rattle.std.proofs.Common.{refl, [], ◌∷◌}
use Rattle.chw_types.specs.declared.kind.Kind.TheVariants.{Nat, Val}
use Rattle.chw_types.specs.declared.kind.Scalar.TheVariants.{U}
use Rattle.chw_types.specs.TypeTree.{TypeTree, scalar}
use Rattle.chw_types.specs.TypeMoves.{sub, put_at, up_by, up, rename}
use Rattle.chw_types.specs.Kinds.{kind_var}
use Rattle.chw_types.specs.KindFound.{kind_found}
use Rattle.chw_types.specs.Polynomials.{is_natural}
use Rattle.chw_types.proofs.KindsFound.{found_is_kind}
use Rattle.chw_prims.specs.Schemas.{bool}
use Rattle.chw_typing.specs.WithoutZeros.{reduced, without_zeros}
use Rattle.chw_typing.specs.Scopes.{HasKind, IsTermType}
use Rattle.chw_typing.specs.HeadTypes.{of_con}
use Rattle.chw_typing.specs.Typing.{none_give}
use Rattle.chw_typing.specs.Examples.{small, cube, padded_width}
use Rattle.chw_typing.specs.Finding.{f_var, f_global, f_ty_app, f_case}
use Rattle.chw_typing.specs.FoundExamples.{with_padded, natural_m, between_words, ZerosKept, ZerosLeftOut, pair, NameOfAPattern}

padded_kind : HasKind with_padded natural_m (between_words padded_width) Val
unfolding kind_found
padded_kind = found_is_kind with_padded.datas with_padded.domains natural_m (between_words padded_width) Val refl

pub zeros_kept : ZerosKept
unfolding kind_found sub put_at up_by up rename
zeros_kept = f_ty_app {j = Nat} {k = Val} (f_global refl) (kind_var refl) refl padded_kind

cubes_kind : HasKind with_padded natural_m (between_words cube) Val
unfolding kind_found
cubes_kind = found_is_kind with_padded.datas with_padded.domains natural_m (between_words cube) Val refl

cube_kind : HasKind with_padded natural_m cube Nat
unfolding kind_found
cube_kind = found_is_kind with_padded.datas with_padded.domains natural_m cube Nat refl

pub zeros_left_out : ZerosLeftOut
unfolding kind_found sub put_at up_by up rename is_natural without_zeros reduced
zeros_left_out = f_ty_app {j = Nat} {k = Val} (f_global refl) cube_kind refl cubes_kind

word_kind : HasKind small natural_m (scalar U padded_width) Val
unfolding kind_found
word_kind = found_is_kind small.datas small.domains natural_m (scalar U padded_width) Val refl

pair_kind : HasKind small natural_m pair Val
unfolding kind_found
pair_kind = found_is_kind small.datas small.domains natural_m pair Val refl

bool_kind : HasKind small natural_m bool Val
unfolding kind_found
bool_kind = found_is_kind small.datas small.domains natural_m bool Val refl

-- a type of values is one that terms have
of_values : (t : TypeTree) → HasKind small natural_m t Val → IsTermType small natural_m t
of_values t d = record { kind = Val; has = d; of_terms = tt }

pub name_of_a_pattern : NameOfAPattern
unfolding kind_found sub
name_of_a_pattern =
    f_case {bound = scalar U padded_width ∷ bool ∷ []} {j = Val} {k = Val} (f_var refl) tt pair_kind (of_con _ refl refl refl) refl
    (of_values (scalar U padded_width) word_kind, (of_values bool bool_kind, tt)) (f_var refl) word_kind tt none_give (tt, tt)
