-- What is found for a term is a type of it.
use Rattle.std.proofs.Common.{subst, List}
use Rattle.chw_types.specs.declared.kind.Kind.{Kind}
use Rattle.chw_types.specs.TypeTree.{TypeTree}
use Rattle.chw_types.specs.TypeMoves.{put}
use Rattle.chw_types.specs.SameTypes.{SameTypes}
use Rattle.chw_terms.specs.TermTree.{TermTree}
use Rattle.chw_typing.specs.Scopes.{Setting, AreSame}
use Rattle.chw_typing.specs.Typing.{HasType, h_var, h_global, h_made, h_lam, h_app, h_ty_lam, h_ty_app, h_letrec, h_con, h_prim, h_lit, h_vec, h_case}
use Rattle.chw_typing.specs.Finding.{Finds, f_var, f_global, f_made, f_lam, f_app, f_ty_lam, f_ty_app, f_letrec, f_con, f_prim, f_lit, f_vec, f_case}
use Rattle.chw_typing.proofs.Settling.{same_settled, all_same_settled}

pub found_is_type : {s : Setting} {kinds : List Kind} {vars : List TypeTree} {e : TermTree} {t : TypeTree} → Finds s kinds vars e t → HasType s kinds vars e t
found_is_type (f_var e) = h_var e
found_is_type (f_global e) = h_global e
found_is_type (f_made e) = h_made e
found_is_type (f_lam d l) = h_lam (found_is_type d) l
found_is_type (f_app d e x) = h_app (found_is_type d) (found_is_type e) x
found_is_type (f_ty_lam d) = h_ty_lam (found_is_type d)
found_is_type {s} {kinds} (f_ty_app {t = t} {a = a} d l x m) =
    h_ty_app (found_is_type d) l (subst (SameTypes (put t 0 a)) x (same_settled s kinds (put t 0 a))) m
found_is_type (f_letrec d l bs) = h_letrec (found_is_type d) l bs
found_is_type (f_con e) = h_con e
found_is_type f_prim = h_prim
found_is_type (f_lit l) = h_lit l
found_is_type (f_vec k d) = h_vec k d
found_is_type {s} {kinds} (f_case {fields = fields} d i l p b t f m a o n) =
    h_case (found_is_type d) i l (record { fields = fields; pattern = p; same = subst (AreSame fields) b (all_same_settled s kinds fields); typed = t }) (found_is_type f) m a o n
