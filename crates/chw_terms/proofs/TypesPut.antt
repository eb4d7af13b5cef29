-- Laws of putting types for the type variables of a term.
use Rattle.std.proofs.Common.{◌≡◌, ℕ, suc, zero, refl, sym, ap, ◌∙◌}
use Rattle.chw_types.specs.TypeTree.{ty_var}
use Rattle.chw_types.specs.TypeMoves.{Renaming, lift, lift_by, rename as rename_type, Substitution as TypeSubstitution, up as up_type, sub as sub_type}
use Rattle.chw_types.proofs.TypeLaws.{same, up_lift as type_up_lift, lift_up as type_lift_up, up_up as type_up_up, rename_sub as type_rename_sub, sub_rename as type_sub_rename, sub_sub as type_sub_sub, sub_ids as type_sub_ids}
use Rattle.chw_terms.specs.TermTree.{TermTree, var, global, made, lam, app, ty_lam, ty_app, letrec, con, prim, lit, vec_lit, case_of, Terms, no_terms, term_and, Group, no_bindings, bind, Alts, no_alts, alt, binders, size_of}
use Rattle.chw_terms.specs.TypesMoved.{rename_types, rename_types_all, rename_types_group, rename_types_alts, sub_types, sub_types_all, sub_types_group, sub_types_alts}
use Rattle.chw_terms.specs.TermMoves.{rename, rename_all, rename_group, rename_alts, Substitution, up, up_by, under_type, sub, sub_all, sub_group, sub_alts}

pub size_typed : (g : Group) (σ : TypeSubstitution) → size_of (sub_types_group g σ) ≡ size_of g
unfolding sub_types
size_typed no_bindings σ = refl
size_typed (bind t e g) σ = ap suc (size_typed g σ)

-- a putting of types after a renaming of type variables
mutual
  unfolding rename_types sub_types

  pub types_sub : (e : TermTree) (ρ : Renaming) (σ : TypeSubstitution) → sub_types (rename_types e ρ) σ ≡ sub_types e (λ x. σ (ρ x))
  types_sub (var x) ρ σ = refl
  types_sub (global d) ρ σ = refl
  types_sub (made m) ρ σ = refl
  types_sub (lam t e) ρ σ = λ i. lam (type_rename_sub t ρ σ i) (types_sub e ρ σ i)
  types_sub (app f a) ρ σ = λ i. app (types_sub f ρ σ i) (types_sub a ρ σ i)
  types_sub (ty_lam k e) ρ σ = ap (ty_lam k) (types_sub e (lift ρ) (up_type σ) ∙ ap (sub_types e) (type_up_lift ρ σ))
  types_sub (ty_app f t) ρ σ = λ i. ty_app (types_sub f ρ σ i) (type_rename_sub t ρ σ i)
  types_sub (letrec g e) ρ σ = λ i. letrec (types_sub_group g ρ σ i) (types_sub e ρ σ i)
  types_sub (con c) ρ σ = refl
  types_sub (prim p) ρ σ = refl
  types_sub (lit s bs) ρ σ = refl
  types_sub (vec_lit t es) ρ σ = λ i. vec_lit (type_rename_sub t ρ σ i) (types_sub_all es ρ σ i)
  types_sub (case_of s alts) ρ σ = λ i. case_of (types_sub s ρ σ i) (types_sub_alts alts ρ σ i)

  pub types_sub_all : (es : Terms) (ρ : Renaming) (σ : TypeSubstitution) → sub_types_all (rename_types_all es ρ) σ ≡ sub_types_all es (λ x. σ (ρ x))
  types_sub_all no_terms ρ σ = refl
  types_sub_all (term_and e es) ρ σ = λ i. term_and (types_sub e ρ σ i) (types_sub_all es ρ σ i)

  pub types_sub_group : (g : Group) (ρ : Renaming) (σ : TypeSubstitution) → sub_types_group (rename_types_group g ρ) σ ≡ sub_types_group g (λ x. σ (ρ x))
  types_sub_group no_bindings ρ σ = refl
  types_sub_group (bind t e g) ρ σ = λ i. bind (type_rename_sub t ρ σ i) (types_sub e ρ σ i) (types_sub_group g ρ σ i)

  pub types_sub_alts : (alts : Alts) (ρ : Renaming) (σ : TypeSubstitution) → sub_types_alts (rename_types_alts alts ρ) σ ≡ sub_types_alts alts (λ x. σ (ρ x))
  types_sub_alts no_alts ρ σ = refl
  types_sub_alts (alt q e more) ρ σ = λ i. alt q (types_sub e ρ σ i) (types_sub_alts more ρ σ i)

-- a renaming of type variables after a putting of types
mutual
  unfolding rename_types sub_types

  pub types_sub_rename : (e : TermTree) (σ : TypeSubstitution) (ρ : Renaming) → rename_types (sub_types e σ) ρ ≡ sub_types e (λ x. rename_type (σ x) ρ)
  types_sub_rename (var x) σ ρ = refl
  types_sub_rename (global d) σ ρ = refl
  types_sub_rename (made m) σ ρ = refl
  types_sub_rename (lam t e) σ ρ = λ i. lam (type_sub_rename t σ ρ i) (types_sub_rename e σ ρ i)
  types_sub_rename (app f a) σ ρ = λ i. app (types_sub_rename f σ ρ i) (types_sub_rename a σ ρ i)
  types_sub_rename (ty_lam k e) σ ρ = ap (ty_lam k) (types_sub_rename e (up_type σ) (lift ρ) ∙ ap (sub_types e) (type_lift_up σ ρ))
  types_sub_rename (ty_app f t) σ ρ = λ i. ty_app (types_sub_rename f σ ρ i) (type_sub_rename t σ ρ i)
  types_sub_rename (letrec g e) σ ρ = λ i. letrec (types_sub_rename_group g σ ρ i) (types_sub_rename e σ ρ i)
  types_sub_rename (con c) σ ρ = refl
  types_sub_rename (prim p) σ ρ = refl
  types_sub_rename (lit s bs) σ ρ = refl
  types_sub_rename (vec_lit t es) σ ρ = λ i. vec_lit (type_sub_rename t σ ρ i) (types_sub_rename_all es σ ρ i)
  types_sub_rename (case_of s alts) σ ρ = λ i. case_of (types_sub_rename s σ ρ i) (types_sub_rename_alts alts σ ρ i)

  pub types_sub_rename_all : (es : Terms) (σ : TypeSubstitution) (ρ : Renaming) → rename_types_all (sub_types_all es σ) ρ ≡ sub_types_all es (λ x. rename_type (σ x) ρ)
  types_sub_rename_all no_terms σ ρ = refl
  types_sub_rename_all (term_and e es) σ ρ = λ i. term_and (types_sub_rename e σ ρ i) (types_sub_rename_all es σ ρ i)

  pub types_sub_rename_group : (g : Group) (σ : TypeSubstitution) (ρ : Renaming) → rename_types_group (sub_types_group g σ) ρ ≡ sub_types_group g (λ x. rename_type (σ x) ρ)
  types_sub_rename_group no_bindings σ ρ = refl
  types_sub_rename_group (bind t e g) σ ρ = λ i. bind (type_sub_rename t σ ρ i) (types_sub_rename e σ ρ i) (types_sub_rename_group g σ ρ i)

  pub types_sub_rename_alts : (alts : Alts) (σ : TypeSubstitution) (ρ : Renaming) → rename_types_alts (sub_types_alts alts σ) ρ ≡ sub_types_alts alts (λ x. rename_type (σ x) ρ)
  types_sub_rename_alts no_alts σ ρ = refl
  types_sub_rename_alts (alt q e more) σ ρ = λ i. alt q (types_sub_rename e σ ρ i) (types_sub_rename_alts more σ ρ i)

-- a putting of types after a putting of types
mutual
  unfolding sub_types

  pub types_sub_sub : (e : TermTree) (σ τ : TypeSubstitution) → sub_types (sub_types e σ) τ ≡ sub_types e (λ x. sub_type (σ x) τ)
  types_sub_sub (var x) σ τ = refl
  types_sub_sub (global d) σ τ = refl
  types_sub_sub (made m) σ τ = refl
  types_sub_sub (lam t e) σ τ = λ i. lam (type_sub_sub t σ τ i) (types_sub_sub e σ τ i)
  types_sub_sub (app f a) σ τ = λ i. app (types_sub_sub f σ τ i) (types_sub_sub a σ τ i)
  types_sub_sub (ty_lam k e) σ τ = ap (ty_lam k) (types_sub_sub e (up_type σ) (up_type τ) ∙ ap (sub_types e) (type_up_up σ τ))
  types_sub_sub (ty_app f t) σ τ = λ i. ty_app (types_sub_sub f σ τ i) (type_sub_sub t σ τ i)
  types_sub_sub (letrec g e) σ τ = λ i. letrec (types_sub_sub_group g σ τ i) (types_sub_sub e σ τ i)
  types_sub_sub (con c) σ τ = refl
  types_sub_sub (prim p) σ τ = refl
  types_sub_sub (lit s bs) σ τ = refl
  types_sub_sub (vec_lit t es) σ τ = λ i. vec_lit (type_sub_sub t σ τ i) (types_sub_sub_all es σ τ i)
  types_sub_sub (case_of s alts) σ τ = λ i. case_of (types_sub_sub s σ τ i) (types_sub_sub_alts alts σ τ i)

  pub types_sub_sub_all : (es : Terms) (σ τ : TypeSubstitution) → sub_types_all (sub_types_all es σ) τ ≡ sub_types_all es (λ x. sub_type (σ x) τ)
  types_sub_sub_all no_terms σ τ = refl
  types_sub_sub_all (term_and e es) σ τ = λ i. term_and (types_sub_sub e σ τ i) (types_sub_sub_all es σ τ i)

  pub types_sub_sub_group : (g : Group) (σ τ : TypeSubstitution) → sub_types_group (sub_types_group g σ) τ ≡ sub_types_group g (λ x. sub_type (σ x) τ)
  types_sub_sub_group no_bindings σ τ = refl
  types_sub_sub_group (bind t e g) σ τ = λ i. bind (type_sub_sub t σ τ i) (types_sub_sub e σ τ i) (types_sub_sub_group g σ τ i)

  pub types_sub_sub_alts : (alts : Alts) (σ τ : TypeSubstitution) → sub_types_alts (sub_types_alts alts σ) τ ≡ sub_types_alts alts (λ x. sub_type (σ x) τ)
  types_sub_sub_alts no_alts σ τ = refl
  types_sub_sub_alts (alt q e more) σ τ = λ i. alt q (types_sub_sub e σ τ i) (types_sub_sub_alts more σ τ i)

up_type_none : up_type ty_var ≡ ty_var
unfolding up_type rename_type
up_type_none = same _ _ here
  where
    here : (x : ℕ) → up_type ty_var x ≡ ty_var x
    here zero = refl
    here (suc x) = refl

-- each type variable put for itself
mutual
  unfolding sub_types

  pub types_sub_ids : (e : TermTree) → sub_types e ty_var ≡ e
  types_sub_ids (var x) = refl
  types_sub_ids (global d) = refl
  types_sub_ids (made m) = refl
  types_sub_ids (lam t e) = λ i. lam (type_sub_ids t i) (types_sub_ids e i)
  types_sub_ids (app f a) = λ i. app (types_sub_ids f i) (types_sub_ids a i)
  types_sub_ids (ty_lam k e) = ap (ty_lam k) (ap (sub_types e) up_type_none ∙ types_sub_ids e)
  types_sub_ids (ty_app f t) = λ i. ty_app (types_sub_ids f i) (type_sub_ids t i)
  types_sub_ids (letrec g e) = λ i. letrec (types_sub_ids_group g i) (types_sub_ids e i)
  types_sub_ids (con c) = refl
  types_sub_ids (prim p) = refl
  types_sub_ids (lit s bs) = refl
  types_sub_ids (vec_lit t es) = λ i. vec_lit (type_sub_ids t i) (types_sub_ids_all es i)
  types_sub_ids (case_of s alts) = λ i. case_of (types_sub_ids s i) (types_sub_ids_alts alts i)

  pub types_sub_ids_all : (es : Terms) → sub_types_all es ty_var ≡ es
  types_sub_ids_all no_terms = refl
  types_sub_ids_all (term_and e es) = λ i. term_and (types_sub_ids e i) (types_sub_ids_all es i)

  pub types_sub_ids_group : (g : Group) → sub_types_group g ty_var ≡ g
  types_sub_ids_group no_bindings = refl
  types_sub_ids_group (bind t e g) = λ i. bind (type_sub_ids t i) (types_sub_ids e i) (types_sub_ids_group g i)

  pub types_sub_ids_alts : (alts : Alts) → sub_types_alts alts ty_var ≡ alts
  types_sub_ids_alts no_alts = refl
  types_sub_ids_alts (alt q e more) = λ i. alt q (types_sub_ids e i) (types_sub_ids_alts more i)

-- a renaming of type variables is a putting of type variables
pub types_is_sub : (e : TermTree) (ρ : Renaming) → rename_types e ρ ≡ sub_types e (λ x. ty_var (ρ x))
types_is_sub e ρ = sym (types_sub_ids (rename_types e ρ)) ∙ types_sub e ρ ty_var

-- types are put and variables renamed in any order
mutual
  unfolding rename sub_types

  pub put_types_after_rename : (e : TermTree) (ρ : Renaming) (τ : TypeSubstitution) → sub_types (rename e ρ) τ ≡ rename (sub_types e τ) ρ
  put_types_after_rename (var x) ρ τ = refl
  put_types_after_rename (global d) ρ τ = refl
  put_types_after_rename (made m) ρ τ = refl
  put_types_after_rename (lam t e) ρ τ = ap (lam (sub_type t τ)) (put_types_after_rename e (lift ρ) τ)
  put_types_after_rename (app f a) ρ τ = λ i. app (put_types_after_rename f ρ τ i) (put_types_after_rename a ρ τ i)
  put_types_after_rename (ty_lam k e) ρ τ = ap (ty_lam k) (put_types_after_rename e ρ (up_type τ))
  put_types_after_rename (ty_app f t) ρ τ = λ i. ty_app (put_types_after_rename f ρ τ i) (sub_type t τ)
  put_types_after_rename (letrec g e) ρ τ =
      let n = size_of g in
      (λ i. letrec (put_types_after_rename_group g (lift_by n ρ) τ i) (put_types_after_rename e (lift_by n ρ) τ i))
      ∙ ap (λ m. letrec (rename_group (sub_types_group g τ) (lift_by m ρ)) (rename (sub_types e τ) (lift_by m ρ))) (sym (size_typed g τ))
  put_types_after_rename (con c) ρ τ = refl
  put_types_after_rename (prim p) ρ τ = refl
  put_types_after_rename (lit s bs) ρ τ = refl
  put_types_after_rename (vec_lit t es) ρ τ = ap (vec_lit (sub_type t τ)) (put_types_after_rename_all es ρ τ)
  put_types_after_rename (case_of s alts) ρ τ = λ i. case_of (put_types_after_rename s ρ τ i) (put_types_after_rename_alts alts ρ τ i)

  pub put_types_after_rename_all : (es : Terms) (ρ : Renaming) (τ : TypeSubstitution) → sub_types_all (rename_all es ρ) τ ≡ rename_all (sub_types_all es τ) ρ
  put_types_after_rename_all no_terms ρ τ = refl
  put_types_after_rename_all (term_and e es) ρ τ = λ i. term_and (put_types_after_rename e ρ τ i) (put_types_after_rename_all es ρ τ i)

  pub put_types_after_rename_group : (g : Group) (ρ : Renaming) (τ : TypeSubstitution) → sub_types_group (rename_group g ρ) τ ≡ rename_group (sub_types_group g τ) ρ
  put_types_after_rename_group no_bindings ρ τ = refl
  put_types_after_rename_group (bind t e g) ρ τ = λ i. bind (sub_type t τ) (put_types_after_rename e ρ τ i) (put_types_after_rename_group g ρ τ i)

  pub put_types_after_rename_alts : (alts : Alts) (ρ : Renaming) (τ : TypeSubstitution) → sub_types_alts (rename_alts alts ρ) τ ≡ rename_alts (sub_types_alts alts τ) ρ
  put_types_after_rename_alts no_alts ρ τ = refl
  put_types_after_rename_alts (alt q e more) ρ τ = λ i. alt q (put_types_after_rename e (lift_by (binders q) ρ) τ i) (put_types_after_rename_alts more ρ τ i)

pub typed_up : (σ : Substitution) (τ : TypeSubstitution) → (λ x. sub_types (up σ x) τ) ≡ up (λ y. sub_types (σ y) τ)
unfolding up sub_types
typed_up σ τ = same _ _ here
  where
    here : (x : ℕ) → sub_types (up σ x) τ ≡ up (λ y. sub_types (σ y) τ) x
    here zero = refl
    here (suc x) = put_types_after_rename (σ x) suc τ

pub typed_up_by : (n : ℕ) (σ : Substitution) (τ : TypeSubstitution) → (λ x. sub_types (up_by n σ x) τ) ≡ up_by n (λ y. sub_types (σ y) τ)
unfolding up_by
typed_up_by zero σ τ = refl
typed_up_by (suc n) σ τ = typed_up (up_by n σ) τ ∙ ap up (typed_up_by n σ τ)

typed_under_type : (σ : Substitution) (τ : TypeSubstitution) → (λ x. sub_types (under_type σ x) (up_type τ)) ≡ under_type (λ x. sub_types (σ x) τ)
unfolding up_type
typed_under_type σ τ = same _ _ (λ x. types_sub (σ x) suc (up_type τ) ∙ sym (types_sub_rename (σ x) τ suc))

-- a putting of types after a putting of terms
mutual
  unfolding sub_types sub

  pub put_types_after_sub : (e : TermTree) (σ : Substitution) (τ : TypeSubstitution) → sub_types (sub e σ) τ ≡ sub (sub_types e τ) (λ x. sub_types (σ x) τ)
  put_types_after_sub (var x) σ τ = refl
  put_types_after_sub (global d) σ τ = refl
  put_types_after_sub (made m) σ τ = refl
  put_types_after_sub (lam t e) σ τ = ap (lam (sub_type t τ)) (put_types_after_sub e (up σ) τ ∙ ap (sub (sub_types e τ)) (typed_up σ τ))
  put_types_after_sub (app f a) σ τ = λ i. app (put_types_after_sub f σ τ i) (put_types_after_sub a σ τ i)
  put_types_after_sub (ty_lam k e) σ τ = ap (ty_lam k) (put_types_after_sub e (under_type σ) (up_type τ) ∙ ap (sub (sub_types e (up_type τ))) (typed_under_type σ τ))
  put_types_after_sub (ty_app f t) σ τ = λ i. ty_app (put_types_after_sub f σ τ i) (sub_type t τ)
  put_types_after_sub (letrec g e) σ τ =
      let n = size_of g in
      (λ i. letrec (put_types_after_sub_group g (up_by n σ) τ i) (put_types_after_sub e (up_by n σ) τ i))
      ∙ ap (λ r. letrec (sub_group (sub_types_group g τ) r) (sub (sub_types e τ) r)) (typed_up_by n σ τ)
      ∙ ap (λ m. letrec (sub_group (sub_types_group g τ) (up_by m (λ y. sub_types (σ y) τ))) (sub (sub_types e τ) (up_by m (λ y. sub_types (σ y) τ)))) (sym (size_typed g τ))
  put_types_after_sub (con c) σ τ = refl
  put_types_after_sub (prim p) σ τ = refl
  put_types_after_sub (lit s bs) σ τ = refl
  put_types_after_sub (vec_lit t es) σ τ = ap (vec_lit (sub_type t τ)) (put_types_after_sub_all es σ τ)
  put_types_after_sub (case_of s alts) σ τ = λ i. case_of (put_types_after_sub s σ τ i) (put_types_after_sub_alts alts σ τ i)

  pub put_types_after_sub_all : (es : Terms) (σ : Substitution) (τ : TypeSubstitution) → sub_types_all (sub_all es σ) τ ≡ sub_all (sub_types_all es τ) (λ x. sub_types (σ x) τ)
  put_types_after_sub_all no_terms σ τ = refl
  put_types_after_sub_all (term_and e es) σ τ = λ i. term_and (put_types_after_sub e σ τ i) (put_types_after_sub_all es σ τ i)

  pub put_types_after_sub_group : (g : Group) (σ : Substitution) (τ : TypeSubstitution) → sub_types_group (sub_group g σ) τ ≡ sub_group (sub_types_group g τ) (λ x. sub_types (σ x) τ)
  put_types_after_sub_group no_bindings σ τ = refl
  put_types_after_sub_group (bind t e g) σ τ = λ i. bind (sub_type t τ) (put_types_after_sub e σ τ i) (put_types_after_sub_group g σ τ i)

  pub put_types_after_sub_alts : (alts : Alts) (σ : Substitution) (τ : TypeSubstitution) → sub_types_alts (sub_alts alts σ) τ ≡ sub_alts (sub_types_alts alts τ) (λ x. sub_types (σ x) τ)
  put_types_after_sub_alts no_alts σ τ = refl
  put_types_after_sub_alts (alt q e more) σ τ = λ i. alt q ((put_types_after_sub e (up_by (binders q) σ) τ ∙ ap (sub (sub_types e τ)) (typed_up_by (binders q) σ τ)) i) (put_types_after_sub_alts more σ τ i)
