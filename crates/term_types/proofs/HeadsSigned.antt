-- The types of heads, by what a signature keeps of them.
use Rattle.std.proofs.Common.{◌≡◌, ℕ, Option, Some, None, sym, ap, ◌∙◌, subst, List, [], map}
use Rattle.std.specs.Prelude.{MatchOption}
use Rattle.std.specs.List.{slice_get}
use Rattle.std.proofs.lemmas.Option.{same_Some}
use Rattle.chw_types.specs.declared.kind.Kind.{Kind}
use Rattle.chw_types.specs.TypeTree.{TypeTree}
use Rattle.chw_types.specs.KindFound.{kind_found}
use Rattle.chw_types.proofs.KindsFound.{found_is_kind, kind_is_found}
use Rattle.chw_types.proofs.KindsKept.{closed_anywhere}
use Rattle.chw_prims.specs.declared.prim.Primitive.{Primitive}
use Rattle.chw_prims.specs.Schemas.{schema_type}
use Rattle.chw_terms.specs.Constructors.{Constructor, con_at}
use Rattle.chw_terms.specs.TermTree.{global, con, prim}
use Rattle.chw_terms.specs.declared.program.Def.{Def}
use Rattle.chw_typing.specs.Scopes.{Setting, HasKind}
use Rattle.chw_typing.proofs.Lists.{found_in_map}
use Rattle.chw_typing.specs.Finding.{f_global}
use Rattle.chw_typing.specs.HeadTypes.{con_type}
use Rattle.chw_typing.specs.Typing.{h_con, h_prim}
use Rattle.term_types.specs.Answers.{HasNoType, IsTyped, IsAnswer, IsReady}
use Rattle.seen_types.specs.declared.found.Found.{Found}
use Rattle.term_types.proofs.Plain.{IsKinded, con_typed, con_unkinded, prim_typed, prim_unkinded}

-- the kind in the signature is the definition's
kind_read : (s : Setting) (defs : List Def) (ks : List (Option Kind)) (n : ℕ) (it : Def) (k : Kind) → ks ≡ map (λ d. kind_found s.datas s.domains [] d.ty) defs → slice_get defs n ≡ Some it → slice_get ks n ≡ Some (Some k) → HasKind s [] it.ty k
kind_read s defs ks n it k all at e =
    let f = λ (d : Def). kind_found s.datas s.domains [] d.ty in
    let read : Some (f it) ≡ Some (Some k) = sym (found_in_map f defs n it at) ∙ ap (λ xs. slice_get xs n) (sym all) ∙ e in
    found_is_kind s.datas s.domains [] it.ty k (same_Some (f it) (Some k) read)

-- a definition whose kind is in the signature
pub global_signed : (s : Setting) (kinds : List Kind) (vars : List TypeTree) (defs : List Def) (ks : List (Option Kind)) (n : ℕ) (it : Def) (f : Found) → s.defs ≡ map (λ d. d.ty) defs → ks ≡ map (λ d. kind_found s.datas s.domains [] d.ty) defs → slice_get defs n ≡ Some it → slice_get ks n ≡ Some (Some f.kind) → f.ty ≡ it.ty → IsTyped s kinds vars (global n) f
global_signed s kinds vars defs ks n it f types all at e is =
    let typed : slice_get s.defs n ≡ Some f.ty = ap (λ ts. slice_get ts n) types ∙ found_in_map (λ (d : Def). d.ty) defs n it at ∙ ap Some (sym is) in
    let kind = kind_read s defs ks n it f.kind all at e in
    (f_global typed, subst (λ t. HasKind s kinds t f.kind) (sym is) (closed_anywhere kind kinds))

-- each definition of a sound setting has one there
pub global_unsigned : (s : Setting) (kinds : List Kind) (vars : List TypeTree) (defs : List Def) (ks : List (Option Kind)) (n : ℕ) (it : Def) → IsReady s kinds vars → s.defs ≡ map (λ d. d.ty) defs → ks ≡ map (λ d. kind_found s.datas s.domains [] d.ty) defs → slice_get defs n ≡ Some it → ((k : Kind) → slice_get ks n ≡ Some (Some k) → ⊥) → HasNoType s kinds vars (global n)
global_unsigned s kinds vars defs ks n it h types all at never t d =
    let f = λ (d : Def). kind_found s.datas s.domains [] d.ty in
    let closed = h.0.defs n it.ty (ap (λ ts. slice_get ts n) types ∙ found_in_map (λ (d : Def). d.ty) defs n it at) in
    never closed.kind (ap (λ xs. slice_get xs n) all ∙ found_in_map f defs n it at ∙ ap Some (kind_is_found closed.has))

-- what is found of a type whose kind was found before
pub head_kinded : (s : Setting) (t : TypeTree) (kind : Option Kind) (r : Option Found) → kind ≡ kind_found s.datas s.domains [] t → MatchOption r (kind ≡ None) (λ f. (f.ty ≡ t) × (kind ≡ Some f.kind)) → IsKinded s [] t r
head_kinded s t kind (Some f) is h = (h.0, found_is_kind s.datas s.domains [] t f.kind (sym is ∙ h.1))
head_kinded s t kind None is h = λ k has. let found = kind_is_found has in absurd (cc)

-- a primitive's type is found, since no primitive is without a type
pub primitive_answered : (s : Setting) (kinds : List Kind) (vars : List TypeTree) (p : Primitive) (t : TypeTree) (r : Option Found) → IsReady s kinds vars → t ≡ schema_type p → IsKinded s [] t r → IsAnswer s kinds vars (prim p) r
primitive_answered s kinds vars p t (Some f) h is k = prim_typed p t f is (k.0, closed_anywhere k.1 kinds)
primitive_answered s kinds vars p t None h is k = absurd (prim_unkinded {s = s} {kinds = []} {vars = []} p t (h.0, tt) is k (schema_type p) h_prim)

-- a kept type is the constructor's, and it has a kind, since no constructor is without a type
pub kept_answered : (s : Setting) (kinds : List Kind) (vars : List TypeTree) (n : ℕ) (it : Constructor) (t : TypeTree) (r : Option Found) → IsReady s kinds vars → con_at s.datas n ≡ Some it → t ≡ con_type it → IsKinded s [] t r → IsAnswer s kinds vars (con n) r
kept_answered s kinds vars n it t (Some f) h at is k = con_typed n it t f at is (k.0, closed_anywhere k.1 kinds)
kept_answered s kinds vars n it t None h at is k = absurd (con_unkinded {s = s} {kinds = []} {vars = []} n it t (h.0, tt) at is k (con_type it) (h_con at))
