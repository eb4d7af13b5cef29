-- The types of lambdas.
use Rattle.std.proofs.Common.{◌≡◌, true, false, refl, sym, subst, List, ◌∷◌}
use Rattle.chw_types.specs.declared.kind.Kind.{Kind}
use Rattle.chw_types.specs.declared.kind.Kind.TheVariants.{Nat, Dom, Val, Cir}
use Rattle.chw_types.specs.TypeTree.{TypeTree, fun, for_all}
use Rattle.chw_types.specs.Kinds.{IsOfTerms, HasFunctions, kind_fun, kind_for_all}
use Rattle.chw_types.proofs.KindsFound.{one_kind}
use Rattle.type_laws.proofs.OneKind.{same_kind}
use Rattle.chw_terms.specs.TermTree.{TermTree, lam, ty_lam}
use Rattle.chw_typing.specs.Scopes.{Setting, HasKind, IsTermType, under_binder}
use Rattle.chw_typing.specs.Typing.{HasType, h_lam, h_ty_lam}
use Rattle.chw_typing.specs.Finding.{Finds, f_lam, f_ty_lam}
use Rattle.chw_typing.proofs.Kinded.{term_type, function_parts, function_takes}
use Rattle.term_types.specs.Answers.{HasNoType, IsTyped, IsReady}
use Rattle.term_spines.specs.Kinding.{has_functions}
use Rattle.seen_types.specs.declared.found.Found.{Found}
use Rattle.chw_typing.proofs.FoundTyped.{found_is_type}
use Rattle.term_types.proofs.Ready.{one, of_terms}

pub functions_found : (j k : Kind) → has_functions j k ≡ true → HasFunctions j k
functions_found Val Val e = tt
functions_found Val Cir e = tt
functions_found Cir Cir e = tt
functions_found Val Nat e = absurd (cc)
functions_found Val Dom e = absurd (cc)
functions_found Cir Nat e = absurd (cc)
functions_found Cir Dom e = absurd (cc)
functions_found Cir Val e = absurd (cc)
functions_found Nat k e = absurd (cc)
functions_found Dom k e = absurd (cc)

pub functions_none : (j k : Kind) → has_functions j k ≡ false → HasFunctions j k → ⊥
functions_none Val Val e h = absurd (cc)
functions_none Val Cir e h = absurd (cc)
functions_none Cir Cir e h = absurd (cc)
functions_none Val Nat e h = h
functions_none Val Dom e h = h
functions_none Cir Nat e h = h
functions_none Cir Dom e h = h
functions_none Cir Val e h = h
functions_none Nat k e h = h
functions_none Dom k e h = h

pub record LamParts (s : Setting) (kinds : List Kind) (vars : List TypeTree) (a : TypeTree) (e : TermTree) (t : TypeTree) : Type 0 where
  pub to : TypeTree
  pub k : Kind
  pub is : t ≡ fun a to
  pub body : HasType s kinds (a ∷ vars) e to
  pub kind : HasKind s kinds (fun a to) k

lam_parts : {s : Setting} {kinds : List Kind} {vars : List TypeTree} {a : TypeTree} {e : TermTree} {t : TypeTree} → HasType s kinds vars (lam a e) t → LamParts s kinds vars a e t
lam_parts (h_lam {b = b} {k = k} d l) = record { to = b; k = k; is = refl; body = d; kind = l }

pub lam_ready : (s : Setting) (kinds : List Kind) (vars : List TypeTree) (a : TypeTree) (j : Kind) → IsReady s kinds vars → HasKind s kinds a j × IsOfTerms j → IsReady s kinds (a ∷ vars)
lam_ready s kinds vars a j h g = (h.0, (term_type s kinds a j g.0 g.1, h.1))

pub lam_typed : {s : Setting} {kinds : List Kind} {vars : List TypeTree} {e : TermTree} (a : TypeTree) (j : Kind) (f r : Found) → HasKind s kinds a j → IsTyped s kinds (a ∷ vars) e f → has_functions j f.kind ≡ true → r.ty ≡ fun a f.ty → r.kind ≡ f.kind → IsTyped s kinds vars (lam a e) r
lam_typed {s} {kinds} {vars} {e} a j f r d t g is same =
    let whole : HasKind s kinds (fun a f.ty) f.kind = kind_fun d t.1 (functions_found j f.kind g) in
    (subst (Finds s kinds vars (lam a e)) (sym is) (f_lam t.0 whole), subst (λ k. HasKind s kinds r.ty k) (sym same) (subst (λ w. HasKind s kinds w f.kind) (sym is) whole))

pub lam_parameter : {s : Setting} {kinds : List Kind} {vars : List TypeTree} {e : TermTree} (a : TypeTree) → (IsTermType s kinds a → ⊥) → HasNoType s kinds vars (lam a e)
lam_parameter {s} {kinds} a never t d = let p = lam_parts d in never (function_takes s kinds a p.to p.k p.kind)

pub lam_body : {s : Setting} {kinds : List Kind} {vars : List TypeTree} {e : TermTree} (a : TypeTree) → HasNoType s kinds (a ∷ vars) e → HasNoType s kinds vars (lam a e)
lam_body a never t d = let p = lam_parts d in never p.to p.body

pub lam_kinds : {s : Setting} {kinds : List Kind} {vars : List TypeTree} {e : TermTree} (a : TypeTree) (j : Kind) (f : Found) → IsReady s kinds (a ∷ vars) → HasKind s kinds a j → IsTyped s kinds (a ∷ vars) e f → has_functions j f.kind ≡ false → HasNoType s kinds vars (lam a e)
lam_kinds a j f h d b never t other =
    let p = lam_parts other in
    let q = function_parts p.kind in
    let from : q.0 ≡ j = one_kind q.1 d in
    let to : p.k ≡ f.kind = same_kind (one h p.body (found_is_type b.0)) q.2 b.1 in
    functions_none j f.kind never (subst (HasFunctions j) to (subst (λ i. HasFunctions i p.k) from q.3))

pub record TyLamParts (s : Setting) (kinds : List Kind) (vars : List TypeTree) (j : Kind) (e : TermTree) (t : TypeTree) : Type 0 where
  pub of : TypeTree
  pub is : t ≡ for_all j of
  pub body : HasType s (j ∷ kinds) (under_binder vars) e of

ty_lam_parts : {s : Setting} {kinds : List Kind} {vars : List TypeTree} {j : Kind} {e : TermTree} {t : TypeTree} → HasType s kinds vars (ty_lam j e) t → TyLamParts s kinds vars j e t
ty_lam_parts (h_ty_lam {t = t} d) = record { of = t; is = refl; body = d }

pub ty_lam_typed : {s : Setting} {kinds : List Kind} {vars : List TypeTree} {e : TermTree} (j : Kind) (f r : Found) → IsReady s (j ∷ kinds) (under_binder vars) → IsTyped s (j ∷ kinds) (under_binder vars) e f → r.ty ≡ for_all j f.ty → r.kind ≡ f.kind → IsTyped s kinds vars (ty_lam j e) r
ty_lam_typed {s} {kinds} {vars} {e} j f r h t is same =
    let whole : HasKind s kinds (for_all j f.ty) f.kind = kind_for_all t.1 (of_terms f h t) in
    (subst (Finds s kinds vars (ty_lam j e)) (sym is) (f_ty_lam t.0), subst (λ k. HasKind s kinds r.ty k) (sym same) (subst (λ w. HasKind s kinds w f.kind) (sym is) whole))

pub ty_lam_body : {s : Setting} {kinds : List Kind} {vars : List TypeTree} {e : TermTree} (j : Kind) → HasNoType s (j ∷ kinds) (under_binder vars) e → HasNoType s kinds vars (ty_lam j e)
ty_lam_body j never t d = let p = ty_lam_parts d in never p.of p.body
