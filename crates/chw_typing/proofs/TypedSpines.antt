-- The types along a spine.
use Rattle.std.proofs.Common.{sym, subst, List, [], ◌∷◌}
use Rattle.chw_types.specs.declared.kind.Kind.{Kind}
use Rattle.chw_types.specs.TypeTree.{TypeTree, fun, for_all}
use Rattle.chw_types.specs.TypeMoves.{put, put_at}
use Rattle.chw_types.specs.SameTypes.{SameTypes}
use Rattle.chw_types.proofs.SameLaws.{same_self, same_turned, same_through}
use Rattle.chw_terms.specs.declared.term.Arg.{Arg}
use Rattle.chw_terms.specs.declared.term.Arg.TheVariants.{OfTerm, OfType}
use Rattle.chw_terms.specs.TermTree.{TermTree, app, ty_app}
use Rattle.chw_terms.specs.TermView.{applied}
use Rattle.type_laws.proofs.KindsExact.{put_at_kinds}
use Rattle.type_laws.proofs.SameForms.{as_function, as_bound}
use Rattle.chw_typing.specs.Scopes.{Setting, HasKind, AreTermTypes}
use Rattle.chw_typing.specs.Programs.{IsSound}
use Rattle.chw_typing.specs.Typing.{HasType, HasTypeUpTo, h_app, h_ty_app}
use Rattle.chw_typing.proofs.Kinded.{function_parts, bound_part, type_kinded}
use Rattle.chw_typing.proofs.OneType.{put_same_of_kinds}
use Rattle.chw_typing.proofs.Patterns.{are_of_terms}
use Rattle.chw_typing.proofs.PutKinds.{same_kind_put}
use Rattle.chw_typing.specs.TypedSpines.{AtArguments, at_none, at_term, at_type}

-- the head of a spine of this type, and what leads from its type to that of the spine
abbrev pub HeadTyped : Setting → List Kind → List TypeTree → TermTree → List Arg → TypeTree → Type 0
HeadTyped s kinds vars e args t = (u : TypeTree) × HasType s kinds vars e u × AtArguments s kinds vars u args t

on_term : {s : Setting} {kinds : List Kind} {vars : List TypeTree} {e a : TermTree} {args : List Arg} {v t : TypeTree} → HasType s kinds vars (app e a) v → AtArguments s kinds vars v args t → HeadTyped s kinds vars e (OfTerm a ∷ args) t
on_term (h_app {a = b} {b = d} f h x) r = (fun b d, f, at_term h x r)

on_type : {s : Setting} {kinds : List Kind} {vars : List TypeTree} {e : TermTree} {a : TypeTree} {args : List Arg} {v t : TypeTree} → HasType s kinds vars (ty_app e a) v → AtArguments s kinds vars v args t → HeadTyped s kinds vars e (OfType a ∷ args) t
on_type (h_ty_app {j = j} {t = b} f l x m) r = (for_all j b, f, at_type l x m r)

pub head_typed : (s : Setting) (kinds : List Kind) (vars : List TypeTree) (e : TermTree) (args : List Arg) (t : TypeTree) → HasType s kinds vars (applied e args) t → HeadTyped s kinds vars e args t
head_typed s kinds vars e [] t d = (t, d, at_none)
head_typed s kinds vars e (OfTerm a ∷ args) t d = let at = head_typed s kinds vars (app e a) args t d in on_term at.1 at.2
head_typed s kinds vars e (OfType a ∷ args) t d = let at = head_typed s kinds vars (ty_app e a) args t d in on_type at.1 at.2

pub spine_typed : {s : Setting} {kinds : List Kind} {vars : List TypeTree} {u t : TypeTree} {args : List Arg} → AtArguments s kinds vars u args t → (e : TermTree) → HasType s kinds vars e u → HasType s kinds vars (applied e args) t
spine_typed at_none e d = d
spine_typed (at_term {a = a} h x r) e d = spine_typed r (app e a) (h_app d h x)
spine_typed (at_type {a = a} l x m r) e d = spine_typed r (ty_app e a) (h_ty_app d l x m)

-- the kind of what comes of one type argument
kind_at_type : (s : Setting) (kinds : List Kind) (j k i : Kind) (a b u : TypeTree) → HasKind s kinds (for_all j b) k → HasKind s kinds a j → SameTypes (put b 0 a) u → HasKind s kinds u i → HasKind s kinds u k
kind_at_type s kinds j k i a b u d l x m =
    subst (HasKind s kinds u) (same_kind_put (bound_part d).0 (put_at 0 a) kinds (put_at_kinds s.datas s.domains [] kinds a j l) u i x m) m

pub kind_kept : {s : Setting} {kinds : List Kind} {vars : List TypeTree} {u t : TypeTree} {args : List Arg} → AtArguments s kinds vars u args t → (k : Kind) → HasKind s kinds u k → HasKind s kinds t k
kind_kept at_none k d = d
kind_kept (at_term h x r) k d = kind_kept r k (function_parts d).2
kind_kept {s} {kinds} (at_type {j = j} {k = i} {a = a} {b = b} {u = u} l x m r) k d = kind_kept r k (kind_at_type s kinds j k i a b u d l x m)

-- from another type that is the same the arguments lead to a type that is the same
pub record SameAtArguments (s : Setting) (kinds : List Kind) (vars : List TypeTree) (v : TypeTree) (args : List Arg) (t : TypeTree) : Type 0 where
  pub type : TypeTree
  pub leads : AtArguments s kinds vars v args type
  pub same : SameTypes t type

pub same_at_arguments : {s : Setting} {kinds : List Kind} {vars : List TypeTree} {u t : TypeTree} {args : List Arg} → AtArguments s kinds vars u args t → IsSound s → (v : TypeTree) (j k : Kind) → HasKind s kinds u j → HasKind s kinds v k → SameTypes u v → SameAtArguments s kinds vars v args t
same_at_arguments at_none h v j k d e x = record { type = v; leads = at_none; same = x }
same_at_arguments {s} {kinds} {vars} {t = t} (at_term {a = a} {args = args} f y r) h v j k d e x =
    let at = as_function x in
    let rest = same_at_arguments r h at.1 j k (function_parts d).2 (function_parts (subst (λ w. HasKind s kinds w k) at.2 e)).2 at.4 in
    subst (λ w. SameAtArguments s kinds vars w (OfTerm a ∷ args) t) (sym at.2)
    (record { type = rest.type; leads = at_term f (same_through (same_turned at.3) y) rest.leads; same = rest.same })
same_at_arguments {s} {kinds} {vars} {t = t} (at_type {j = i} {a = a} {b = b} {args = args} l y m r) h v j k d e x =
    let at = as_bound x in
    let put_same = put_same_of_kinds i (are_of_terms s h) (bound_part (subst (λ w. HasKind s kinds w k) at.1 e)).0 (bound_part d).0 l (same_turned at.2) (same_self a) in
    subst (λ w. SameAtArguments s kinds vars w (OfType a ∷ args) t) (sym at.1)
    (record { type = t; leads = at_type l (same_through put_same y) m r; same = same_self t })

pub head_changed : (s : Setting) (kinds : List Kind) (vars : List TypeTree) (e f : TermTree) (args : List Arg) (t : TypeTree) → IsSound s → AreTermTypes s kinds vars → ((u : TypeTree) → HasType s kinds vars e u → HasTypeUpTo s kinds vars f u) → HasType s kinds vars (applied e args) t → HasTypeUpTo s kinds vars (applied f args) t
head_changed s kinds vars e f args t h g may d =
    let at = head_typed s kinds vars e args t d in
    let other = may at.0 at.1 in
    let before = type_kinded at.1 h g in
    let after = type_kinded other.has h g in
    let leads = same_at_arguments at.2 h other.type before.kind after.kind before.has after.has other.same in
    record { type = leads.type; has = spine_typed leads.leads f other.has; same = leads.same }
