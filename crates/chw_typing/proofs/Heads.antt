-- The types of constructors have kinds.
use Rattle.std.proofs.Common.{◌≡◌, ℕ, suc, zero, ◌+◌, refl, sym, ap, ◌∙◌, subst, ◌⊎◌, inl, inr, List, [], ◌∷◌, ◌++◌, length, reverse, arith}
use Rattle.std.specs.Prelude.{Some}
use Rattle.std.specs.List.{slice_get}
use Rattle.std.proofs.lemmas.List.{length-reverse, append-nil}
use Rattle.chw_types.specs.declared.kind.Kind.{Kind}
use Rattle.chw_types.specs.declared.kind.Kind.TheVariants.{Nat, Dom, Val, Cir}
use Rattle.chw_types.specs.declared.declarations.ConDecl.{ConDecl}
use Rattle.chw_types.specs.declared.declarations.Data.{Data}
use Rattle.chw_types.specs.TypeTree.{TypeTree, data_of}
use Rattle.chw_types.specs.Kinds.{IsOfTerms, HasFunctions, KindOf, kind_var, kind_data, kind_fun, kind_for_all, KindsOf, no_kinds, kind_and}
use Rattle.chw_terms.specs.References.{IsField}
use Rattle.chw_terms.specs.Tidy.{HasItsKind}
use Rattle.type_laws.proofs.KindsExact.{slot_at}
use Rattle.chw_terms.specs.Constructors.{Constructor, cons_of, constructors_from, con_at}
use Rattle.chw_typing.specs.Scopes.{Setting}
use Rattle.chw_typing.specs.HeadTypes.{for_each, from_each, variables, con_type}
use Rattle.chw_typing.specs.Programs.{IsSound}
use Rattle.chw_typing.proofs.Lists.{turned_onto}

pub functions_of_terms : (j k : Kind) → HasFunctions j k → IsOfTerms j × IsOfTerms k
functions_of_terms Val Val h = (tt, tt)
functions_of_terms Val Cir h = (tt, tt)
functions_of_terms Cir Cir h = (tt, tt)
functions_of_terms Val Nat h = absurd h
functions_of_terms Val Dom h = absurd h
functions_of_terms Cir Nat h = absurd h
functions_of_terms Cir Dom h = absurd h
functions_of_terms Cir Val h = absurd h
functions_of_terms Nat k h = absurd h
functions_of_terms Dom k h = absurd h

-- a constructor is one of the data type that it names
pub record IsConstructor (datas : List Data) (it : Constructor) : Type 0 where
  pub data_type : slice_get datas it.of ≡ Some it.it
  pub place : ℕ
  pub decl : slice_get it.it.cons place ≡ Some it.decl

-- a constructor among these of a data type, or among the others
among : (d : ℕ) (x : Data) (ks : List ConDecl) (others : List Constructor) (c : ℕ) (it : Constructor) → slice_get (cons_of d x ks others) c ≡ Some it → ((it.of ≡ d) × (it.it ≡ x) × (i : ℕ) × (slice_get ks i ≡ Some it.decl)) ⊎ ((i : ℕ) × (slice_get others i ≡ Some it))
among d x [] others c it e = inr (c, e)
among d x (k ∷ ks) others zero it e =
    let is : record { of = d; it = x; decl = k } ≡ it = cc in
    inl (ap (λ i. i.of) (sym is), ap (λ i. i.it) (sym is), 0, ap (λ i. Some i.decl) is)
among d x (k ∷ ks) others (suc c) it e = next (among d x ks others c it e)
  where
    next : ((it.of ≡ d) × (it.it ≡ x) × (i : ℕ) × (slice_get ks i ≡ Some it.decl)) ⊎ ((i : ℕ) × (slice_get others i ≡ Some it)) → ((it.of ≡ d) × (it.it ≡ x) × (i : ℕ) × (slice_get (k ∷ ks) i ≡ Some it.decl)) ⊎ ((i : ℕ) × (slice_get others i ≡ Some it))
    next (inl h) = inl (h.0, h.1, suc h.2, h.3)
    next (inr h) = inr h

abbrev IsAmong : ℕ → List Data → Constructor → Type 0
IsAmong d datas it = (n : ℕ) × (it.of ≡ d + n) × (slice_get datas n ≡ Some it.it) × (i : ℕ) × (slice_get it.it.cons i ≡ Some it.decl)

among_all : (d : ℕ) (datas : List Data) (c : ℕ) (it : Constructor) → slice_get (constructors_from d datas) c ≡ Some it → IsAmong d datas it
among_all d [] c it e = absurd (cc)
among_all d (x ∷ more) c it e = by (λ i f. among_all (suc d) more i it f) (among d x x.cons (constructors_from (suc d) more) c it e)
  where
    by : ((i : ℕ) → slice_get (constructors_from (suc d) more) i ≡ Some it → IsAmong (suc d) more it) → ((it.of ≡ d) × (it.it ≡ x) × (i : ℕ) × (slice_get x.cons i ≡ Some it.decl)) ⊎ ((i : ℕ) × (slice_get (constructors_from (suc d) more) i ≡ Some it)) → IsAmong d (x ∷ more) it
    by later (inl h) = (0, omega (arith, h.0), ap Some (sym h.1), h.2, subst (λ y. slice_get y.cons h.2 ≡ Some it.decl) (sym h.1) h.3)
    by later (inr h) = let at = later h.0 h.1 in (suc at.0, omega (arith, at.1), at.2, at.3, at.4)

pub is_constructor : (datas : List Data) (c : ℕ) (it : Constructor) → con_at datas c ≡ Some it → IsConstructor datas it
is_constructor datas c it e =
    let at = among_all 0 datas c it e in
    record { data_type = subst (λ n. slice_get datas n ≡ Some it.it) (let is : at.0 ≡ it.of = omega (arith, at.1) in is) at.2; place = at.3; decl = at.4 }

-- the kind of a data type is one of terms
pub of_terms_kind : (datas : List Data) (domains : ℕ) (it : Data) → HasItsKind datas domains it → IsOfTerms it.kind
of_terms_kind datas domains it h = by it.kind refl
  where
    no_other : (k : Kind) → it.kind ≡ k → (k ≡ Cir → ⊥) → (k ≡ Val → ⊥) → ⊥
    no_other k e no_cir no_val = no_val (sym e ∙ h.values (λ has. no_cir (sym e ∙ h.circuit has)))

    by : (k : Kind) → it.kind ≡ k → IsOfTerms it.kind
    by Val e = subst IsOfTerms (sym e) tt
    by Cir e = subst IsOfTerms (sym e) tt
    by Nat e = absurd (no_other Nat e (λ f. absurd (cc)) (λ f. absurd (cc)))
    by Dom e = absurd (no_other Dom e (λ f. absurd (cc)) (λ f. absurd (cc)))

-- a field's kind allows that of its data type
field_allows : (datas : List Data) (domains : ℕ) (it : Data) (t : TypeTree) (j : Kind) → HasItsKind datas domains it → IsField it t → KindOf datas domains (reverse it.params) t j → IsOfTerms j → HasFunctions j it.kind
field_allows datas domains it t Cir h f d o = subst (HasFunctions Cir) (sym (h.circuit (t, f, d))) tt
field_allows datas domains it t Val h f d o = by it.kind (of_terms_kind datas domains it h)
  where
    by : (k : Kind) → IsOfTerms k → HasFunctions Val k
    by Val o = tt
    by Cir o = tt
    by Nat o = absurd o
    by Dom o = absurd o
field_allows datas domains it t Nat h f d o = absurd o
field_allows datas domains it t Dom h f d o = absurd o

kind_for_each : (datas : List Data) (domains : ℕ) (ks scope : List Kind) (t : TypeTree) (k : Kind) → KindOf datas domains (reverse ks ++ scope) t k → IsOfTerms k → KindOf datas domains scope (for_each ks t) k
kind_for_each datas domains [] scope t k d o = d
kind_for_each datas domains (j ∷ ks) scope t k d o =
    kind_for_all (kind_for_each datas domains ks (j ∷ scope) t k (subst (λ sc. KindOf datas domains sc t k) (turned_onto j ks scope) d) o) o

kind_from_each : (datas : List Data) (domains : ℕ) (scope : List Kind) (fs : List TypeTree) (t : TypeTree) (k : Kind) → KindOf datas domains scope t k → ((i : ℕ) (f : TypeTree) → slice_get fs i ≡ Some f → (j : Kind) × KindOf datas domains scope f j × HasFunctions j k) → KindOf datas domains scope (from_each fs t) k
kind_from_each datas domains scope [] t k d h = d
kind_from_each datas domains scope (f ∷ fs) t k d h =
    let at = h 0 f refl in
    kind_fun at.1 (kind_from_each datas domains scope fs t k d (λ i g e. h (suc i) g e)) at.2

kinds_of_variables : (datas : List Data) (domains : ℕ) (ks scope : List Kind) → KindsOf datas domains (reverse ks ++ scope) (variables (length ks)) ks
kinds_of_variables datas domains [] scope = no_kinds
kinds_of_variables datas domains (k ∷ ks) scope =
    kind_and
    (kind_var (subst (λ sc. slice_get sc (length ks) ≡ Some k) (sym (turned_onto k ks scope)) (subst (λ n. slice_get (reverse ks ++ k ∷ scope) n ≡ Some k) (length-reverse ks) (slot_at (reverse ks) scope k))))
    (subst (λ sc. KindsOf datas domains sc (variables (length ks)) ks) (sym (turned_onto k ks scope)) (kinds_of_variables datas domains ks (k ∷ scope)))

-- a constructor's type has the kind of its data type, with nothing in scope
pub con_kind : (s : Setting) (c : ℕ) (it : Constructor) → IsSound s → con_at s.datas c ≡ Some it → KindOf s.datas s.domains [] (con_type it) it.it.kind
con_kind s c it h e =
    let is = is_constructor s.datas c it e in
    let of = h.kinds it.of it.it is.data_type in
    let inside = subst (λ sc. KindsOf s.datas s.domains sc (variables (length it.it.params)) it.it.params) (append-nil (reverse it.it.params)) (kinds_of_variables s.datas s.domains it.it.params []) in
    kind_for_each s.datas s.domains it.it.params [] (from_each it.decl.fields (data_of it.of (variables (length it.it.params)))) it.it.kind
    (subst (λ sc. KindOf s.datas s.domains sc (from_each it.decl.fields (data_of it.of (variables (length it.it.params)))) it.it.kind) (sym (append-nil (reverse it.it.params)))
    (kind_from_each s.datas s.domains (reverse it.it.params) it.decl.fields (data_of it.of (variables (length it.it.params))) it.it.kind (kind_data is.data_type inside)
    (λ i f g.
    let field : IsField it.it f = record { con = is.place; of = it.decl; is_con = is.decl; at = i; is_field = g } in
    let typed = h.fields it.of it.it f is.data_type field in
    (typed.kind, typed.has, field_allows s.datas s.domains it.it f typed.kind of field typed.has typed.of_terms))))
    (of_terms_kind s.datas s.domains it.it of)
