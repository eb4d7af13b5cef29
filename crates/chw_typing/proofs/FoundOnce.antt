-- At most one type is found for a term.
use Rattle.std.proofs.Common.{◌≡◌, refl, sym, ap, ◌∙◌, List, ◌∷◌, map}
use Rattle.chw_types.specs.declared.kind.Kind.{Kind}
use Rattle.chw_types.specs.TypeTree.{TypeTree, fun, for_all}
use Rattle.chw_types.specs.TypeMoves.{put}
use Rattle.chw_terms.specs.TermTree.{TermTree}
use Rattle.chw_typing.specs.Scopes.{Setting, under_binder, with_more, declared}
use Rattle.chw_typing.specs.HeadTypes.{con_type}
use Rattle.chw_typing.proofs.Patterns.{one_pattern}
use Rattle.chw_typing.specs.Finding.{settled, Finds, f_var, f_global, f_made, f_lam, f_app, f_ty_lam, f_ty_app, f_letrec, f_con, f_prim, f_lit, f_vec, f_case}

result_of : {a b c d : TypeTree} → fun a b ≡ fun c d → b ≡ d
result_of e = cc

bound_in : {j k : Kind} {t u : TypeTree} → for_all j t ≡ for_all k u → t ≡ u
bound_in e = cc

pub one_found : {s : Setting} {kinds : List Kind} {vars vars' : List TypeTree} {e : TermTree} {t u : TypeTree} → Finds s kinds vars e t → Finds s kinds vars' e u → vars ≡ vars' → t ≡ u
one_found (f_var e) (f_var f) q = cc
one_found (f_global e) (f_global f) q = cc
one_found (f_made e) (f_made f) q = cc
one_found (f_lam {a = a} d l) (f_lam e m) q = ap (fun a) (one_found d e (ap (λ vars. a ∷ vars) q))
one_found (f_app d a x) (f_app e b y) q = result_of (one_found d e q)
one_found (f_ty_lam {j = j} d) (f_ty_lam e) q = ap (for_all j) (one_found d e (ap under_binder q))
one_found {s} {kinds} (f_ty_app {a = a} d l x m) (f_ty_app e k y n) q =
    sym x ∙ ap (λ t. settled s kinds (put t 0 a)) (bound_in (one_found d e q)) ∙ y
one_found (f_letrec {g = b} d k bs) (f_letrec e l cs) q = one_found d e (ap (with_more (declared b)) q)
one_found (f_con {it = it} e) (f_con {it = other} f) q = let is : it ≡ other = cc in ap con_type is
one_found f_prim f_prim q = refl
one_found (f_lit l) (f_lit m) q = refl
one_found (f_vec t d) (f_vec u e) q = refl
one_found {s} {kinds} (f_case {bound = bound} d i l p b t f k a o n) (f_case {bound = bound'} d' i' l' p' b' t' f' k' a' o' n') q =
    let same : bound ≡ bound' = sym b ∙ ap (map (λ x. settled s kinds x)) (one_pattern p p' (one_found d d' q) refl) ∙ b' in
    one_found f f' (λ x. with_more (same x) (q x))
