-- What applications have a type.
use Rattle.std.proofs.Common.{sym, subst, List, [], ◌∷◌}
use Rattle.chw_types.specs.declared.kind.Kind.{Kind}
use Rattle.chw_types.specs.TypeTree.{TypeTree, fun, for_all}
use Rattle.chw_types.specs.TypeMoves.{put}
use Rattle.chw_types.specs.SameTypes.{SameTypes}
use Rattle.chw_types.proofs.SameLaws.{same_self, same_turned, same_through}
use Rattle.type_laws.proofs.SameForms.{as_function, as_bound}
use Rattle.chw_terms.specs.TermTree.{TermTree, app, ty_app}
use Rattle.chw_terms.specs.TermView.{applied}
use Rattle.chw_terms.specs.declared.term.Arg.{Arg}
use Rattle.chw_terms.specs.declared.term.Arg.TheVariants.{OfTerm, OfType}
use Rattle.chw_typing.specs.Scopes.{Setting, HasKind}
use Rattle.chw_typing.specs.Typing.{HasType, h_app, h_ty_app}
use Rattle.chw_typing.specs.Finding.{settled, Finds, f_app, f_ty_app}
use Rattle.chw_typing.proofs.Kinded.{function_parts, bound_part}
use Rattle.chw_typing.proofs.OneType.{put_same_of_kinds}
use Rattle.chw_typing.proofs.Patterns.{are_of_terms}
use Rattle.term_types.specs.Answers.{HasNoType, IsTyped, IsReady}
use Rattle.term_spines.specs.Forms.{Takes, TakesNot, TakesType, TakesTypeNot}
use Rattle.seen_types.specs.declared.found.Found.{Found}
use Rattle.chw_typing.proofs.FoundTyped.{found_is_type}
use Rattle.term_types.proofs.Ready.{one, kinded}

pub record AppParts (s : Setting) (kinds : List Kind) (vars : List TypeTree) (f e : TermTree) (b : TypeTree) : Type 0 where
  pub from : TypeTree
  pub arg : TypeTree
  pub head : HasType s kinds vars f (fun from b)
  pub typed : HasType s kinds vars e arg
  pub same : SameTypes from arg

app_parts : {s : Setting} {kinds : List Kind} {vars : List TypeTree} {f e : TermTree} {b : TypeTree} → HasType s kinds vars (app f e) b → AppParts s kinds vars f e b
app_parts (h_app {a = a} {c = c} d e x) = record { from = a; arg = c; head = d; typed = e; same = x }

pub record TyAppParts (s : Setting) (kinds : List Kind) (vars : List TypeTree) (f : TermTree) (a u : TypeTree) : Type 0 where
  pub j : Kind
  pub k : Kind
  pub of : TypeTree
  pub head : HasType s kinds vars f (for_all j of)
  pub kind : HasKind s kinds a j
  pub same : SameTypes (put of 0 a) u
  pub kinded : HasKind s kinds u k

ty_app_parts : {s : Setting} {kinds : List Kind} {vars : List TypeTree} {f : TermTree} {a u : TypeTree} → HasType s kinds vars (ty_app f a) u → TyAppParts s kinds vars f a u
ty_app_parts (h_ty_app {j = j} {k = k} {t = t} d l x m) = record { j = j; k = k; of = t; head = d; kind = l; same = x; kinded = m }

-- where a head has no type, neither has it with arguments
pub applied_none : {s : Setting} {kinds : List Kind} {vars : List TypeTree} (e : TermTree) (args : List Arg) → HasNoType s kinds vars e → HasNoType s kinds vars (applied e args)
applied_none e [] h = h
applied_none e (OfTerm a ∷ args) h = applied_none (app e a) args (λ t d. h _ (app_parts d).head)
applied_none e (OfType a ∷ args) h = applied_none (ty_app e a) args (λ t d. h _ (ty_app_parts d).head)

pub app_typed : {s : Setting} {kinds : List Kind} {vars : List TypeTree} {f e : TermTree} (fun_found : Found) (c : TypeTree) (r : Found) → IsTyped s kinds vars f fun_found → Finds s kinds vars e c → Takes fun_found c r → IsTyped s kinds vars (app f e) r
app_typed {s} {kinds} {vars} {f} g c r d a t = (
  f_app (subst (Finds s kinds vars f) t.is d.0) a t.same,
  let parts = function_parts (subst (λ w. HasKind s kinds w g.kind) t.is d.1) in subst (HasKind s kinds r.ty) (sym t.kind) parts.2,
)

pub app_untyped : {s : Setting} {kinds : List Kind} {vars : List TypeTree} {f e : TermTree} (g : Found) (c : TypeTree) → IsReady s kinds vars → IsTyped s kinds vars f g → Finds s kinds vars e c → TakesNot g.ty c → HasNoType s kinds vars (app f e)
app_untyped g c h d a never t other =
    let parts = app_parts other in
    let at = as_function (one h parts.head (found_is_type d.0)) in
    never at.0 at.1 at.2 (same_through (same_turned at.3) (same_through parts.same (one h parts.typed (found_is_type a))))

pub app_argument_untyped : {s : Setting} {kinds : List Kind} {vars : List TypeTree} {f e : TermTree} → HasNoType s kinds vars e → HasNoType s kinds vars (app f e)
app_argument_untyped never t d = let parts = app_parts d in never parts.arg parts.typed

pub ty_app_typed : {s : Setting} {kinds : List Kind} {vars : List TypeTree} {f : TermTree} (g : Found) (a : TypeTree) (r : Found) → IsTyped s kinds vars f g → TakesType s kinds g.ty a r → IsTyped s kinds vars (ty_app f a) r
ty_app_typed {s} {kinds} {vars} {f} g a r d t = (f_ty_app (subst (Finds s kinds vars f) t.is d.0) t.kind t.settled t.kinded, t.kinded)

pub ty_app_untyped : {s : Setting} {kinds : List Kind} {vars : List TypeTree} {f : TermTree} (g : Found) (a : TypeTree) → IsReady s kinds vars → IsTyped s kinds vars f g → TakesTypeNot s kinds g.ty a → HasNoType s kinds vars (ty_app f a)
ty_app_untyped {s} {kinds} g a h d never u other =
    let parts = ty_app_parts other in
    let at = as_bound (one h parts.head (found_is_type d.0)) in
    let left = bound_part (subst (λ w. HasKind s kinds w g.kind) at.1 d.1) in
    let right = bound_part (kinded h parts.head).has in
    let of = are_of_terms s h.0 in
    never parts.j parts.k at.0 u of at.1 parts.kind (same_through (put_same_of_kinds parts.j of left.0 right.0 parts.kind (same_turned at.2) (same_self a)) parts.same) parts.kinded
