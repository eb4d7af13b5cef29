-- A term has at most one type, up to naturals.
use Rattle.std.proofs.Common.{◌≡◌, ℕ, refl, subst, List, [], ◌∷◌}
use Rattle.chw_types.specs.declared.kind.Kind.{Kind}
use Rattle.chw_types.specs.declared.declarations.Data.{Data}
use Rattle.chw_types.specs.TypeTree.{TypeTree, fun, for_all}
use Rattle.chw_types.specs.TypeMoves.{put}
use Rattle.chw_types.specs.Kinds.{KindOf}
use Rattle.chw_types.specs.Polynomials.{is_natural}
use Rattle.chw_types.specs.SameTypes.{SameTypes, same_naturals, same_fun, same_for_all}
use Rattle.chw_types.proofs.SameLaws.{same_self, same_turned, same_through}
use Rattle.chw_terms.specs.TermTree.{TermTree}
use Rattle.type_laws.specs.KindsKept.{AreOfTerms}
use Rattle.type_laws.proofs.OneKind.{nat_natural}
use Rattle.type_laws.proofs.Shifted.{put_same}
use Rattle.type_laws.proofs.Slots.{slot_is_nat}
use Rattle.chw_typing.specs.Scopes.{Setting, HasKind, AreTermTypes, AreSame, declared}
use Rattle.chw_typing.specs.HeadTypes.{con_type}
use Rattle.chw_typing.specs.Programs.{IsSound}
use Rattle.chw_typing.specs.Typing.{HasType, h_var, h_global, h_made, h_lam, h_app, h_ty_lam, h_ty_app, h_letrec, h_con, h_prim, h_lit, h_vec, h_case}
use Rattle.chw_typing.proofs.Kinded.{function_takes, bound_part, typed_under, typed_more, bound_typed, type_kinded}
use Rattle.chw_typing.proofs.Patterns.{are_of_terms, one_binding}
use Rattle.chw_typing.proofs.SameScopes.{are_same_self, same_more, same_under_binder, same_at}

results_same : {a b c d : TypeTree} → SameTypes (fun a b) (fun c d) → SameTypes b d
unfolding is_natural
results_same (same_naturals n m p) = absurd (cc)
results_same (same_fun h g) = g

pub binders_same : {j k : Kind} {t u : TypeTree} → SameTypes (for_all j t) (for_all k u) → (k ≡ j) × SameTypes t u
unfolding is_natural
binders_same (same_naturals n m p) = absurd (cc)
binders_same (same_for_all h) = (refl, h)

-- the same put into the same, where all have kinds
pub put_same_of_kinds : {datas : List Data} {domains : ℕ} {scope : List Kind} {t u a b : TypeTree} {i k : Kind} (j : Kind) → AreOfTerms datas → KindOf datas domains (j ∷ scope) t i → KindOf datas domains (j ∷ scope) u k → KindOf datas domains scope a j → SameTypes t u → SameTypes a b → SameTypes (put t 0 a) (put u 0 b)
put_same_of_kinds {scope = scope} {t = t} {u = u} {a = a} {b = b} j of d e f h g =
    put_same t u a b 0 h g (λ s. nat_natural of f (slot_is_nat [] scope j d e s))

pub one_type : {s : Setting} {kinds : List Kind} {vars vars' : List TypeTree} {e : TermTree} {t u : TypeTree} → HasType s kinds vars e t → HasType s kinds vars' e u → IsSound s → AreTermTypes s kinds vars → AreTermTypes s kinds vars' → AreSame vars vars' → SameTypes t u
one_type {vars = vars} {vars' = vars'} (h_var {x = x} {t = t} e) (h_var {t = u} f) h g g' q =
    let at = same_at vars vars' x t q e in
    let there = at.1 in
    let is : at.0 ≡ u = cc in
    subst (SameTypes t) is at.2
one_type (h_global {t = t} e) (h_global {t = u} f) h g g' q = let is : t ≡ u = cc in subst (SameTypes t) is (same_self t)
one_type (h_made {t = t} e) (h_made {t = u} f) h g g' q = let is : t ≡ u = cc in subst (SameTypes t) is (same_self t)
one_type {s} {kinds} (h_lam {a = a} {b = b} {k = k} d l) (h_lam {b = c} {k = j} e m) h g g' q =
    same_fun (same_self a) (one_type d e h (function_takes s kinds a b k l, g) (function_takes s kinds a c j m, g') (same_self a, q))
one_type (h_app d a x) (h_app e b y) h g g' q = results_same (one_type d e h g g' q)
one_type {s} {kinds} {vars} {vars'} (h_ty_lam {j = j} d) (h_ty_lam e) h g g' q =
    same_for_all (one_type d e h (typed_under s kinds j vars g) (typed_under s kinds j vars' g') (same_under_binder vars vars' q))
one_type {s} {kinds} (h_ty_app {j = j} {a = a} d l x m) (h_ty_app {t = t} e k y n) h g g' q =
    let parts = binders_same (one_type d e h g g' q) in
    let left = type_kinded d h g in
    let right = type_kinded e h g' in
    let part = subst (λ i. HasKind s (i ∷ kinds) t right.kind) parts.0 (bound_part right.has).0 in
    same_through (same_turned x) (same_through (put_same_of_kinds j (are_of_terms s h) (bound_part left.has).0 part l parts.1 (same_self a)) y)
one_type {s} {kinds} {vars} {vars'} (h_letrec {g = b} d k bs) (h_letrec e l cs) h g g' q =
    one_type d e h (typed_more s kinds (declared b) vars (bound_typed bs) g) (typed_more s kinds (declared b) vars' (bound_typed cs) g') (same_more (declared b) (declared b) vars vars' (are_same_self (declared b)) q)
one_type (h_con {it = it} e) (h_con {it = other} f) h g g' q = let is : it ≡ other = cc in subst (λ c. SameTypes (con_type it) (con_type c)) is (same_self (con_type it))
one_type h_prim h_prim h g g' q = same_self _
one_type (h_lit l) (h_lit m) h g g' q = same_self _
one_type (h_vec t d) (h_vec u e) h g g' q = same_self _
one_type {s} {kinds} {vars} {vars'} (h_case {bound = bound} {j = j} d i l b f k a o n) (h_case {bound = bound'} e i' l' c f' k' a' o' n') h g g' q =
    let same = one_binding b c h j l (one_type d e h g g' q) in
    one_type f f' h (typed_more s kinds bound vars b.typed g) (typed_more s kinds bound' vars' c.typed g') (same_more bound bound' vars vars' same q)
