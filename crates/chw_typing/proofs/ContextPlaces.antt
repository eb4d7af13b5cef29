-- Places are parts, and places of parts are places.
use Rattle.std.proofs.Common.{◌≡◌, ℕ, suc, refl, ap, ◌∙◌, List, ◌++◌, Some}
use Rattle.std.specs.Prelude.{option_map}
use Rattle.chw_types.specs.declared.kind.Kind.{Kind}
use Rattle.chw_types.specs.TypeTree.{TypeTree}
use Rattle.chw_terms.specs.TermTree.{TermTree, letrec, vec_lit, case_of}
use Rattle.chw_typing.specs.Scopes.{Setting}
use Rattle.chw_typing.specs.Paths.{part_at}
use Rattle.chw_typing.proofs.PathParts.{part_below}
use Rattle.chw_typing.specs.Around.{Around, here, in_lam, in_ty_lam, in_function, in_argument, in_ty_app, in_letrec, in_vector, in_scrutinee, in_branch}

pub around_is_part : {s : Setting} {kinds ks : List Kind} {vars vs : List TypeTree} {e x : TermTree} {p : List ℕ} → Around s kinds vars e p ks vs x → part_at e p ≡ Some x
around_is_part here = refl
around_is_part (in_lam r) = around_is_part r
around_is_part (in_ty_lam r) = around_is_part r
around_is_part (in_function r) = around_is_part r
around_is_part (in_argument r) = around_is_part r
around_is_part (in_ty_app r) = around_is_part r
around_is_part (in_letrec {g = g} {e = e} {b = b} {i = i} {p = p} h r) = part_below (letrec g e) b i p h ∙ around_is_part r
around_is_part (in_vector {t = t} {es = es} {e = e} {i = i} {p = p} h r) = part_below (vec_lit t es) e i p h ∙ around_is_part r
around_is_part (in_scrutinee r) = around_is_part r
around_is_part (in_branch {e = e} {alts = alts} {a = a} {i = i} {p = p} h d b r) =
    part_below (case_of e alts) a.body (suc i) p (ap (option_map (λ a. a.body)) h) ∙ around_is_part r

pub around_behind : {s : Setting} {kinds ks ks' : List Kind} {vars vs vs' : List TypeTree} {e x y : TermTree} {p q : List ℕ} → Around s kinds vars e p ks vs x → Around s ks vs x q ks' vs' y → Around s kinds vars e (p ++ q) ks' vs' y
around_behind here r = r
around_behind (in_lam l) r = in_lam (around_behind l r)
around_behind (in_ty_lam l) r = in_ty_lam (around_behind l r)
around_behind (in_function l) r = in_function (around_behind l r)
around_behind (in_argument l) r = in_argument (around_behind l r)
around_behind (in_ty_app l) r = in_ty_app (around_behind l r)
around_behind (in_letrec h l) r = in_letrec h (around_behind l r)
around_behind (in_vector h l) r = in_vector h (around_behind l r)
around_behind (in_scrutinee l) r = in_scrutinee (around_behind l r)
around_behind (in_branch h d b l) r = in_branch h d b (around_behind l r)
