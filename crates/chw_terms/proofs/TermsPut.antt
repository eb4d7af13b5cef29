-- Laws of putting terms for variables.
use Rattle.std.proofs.Common.{◌≡◌, ℕ, suc, zero, refl, sym, ap, ◌∙◌}
use Rattle.chw_types.specs.TypeMoves.{Renaming, lift, lift_by, rename as rename_type}
use Rattle.chw_types.proofs.TypeLaws.{same}
use Rattle.chw_terms.specs.TermTree.{TermTree, var, global, made, lam, app, ty_lam, ty_app, letrec, con, prim, lit, vec_lit, case_of, Terms, no_terms, term_and, Group, no_bindings, bind, Alts, no_alts, alt, binders, size_of}
use Rattle.chw_terms.specs.TypesMoved.{rename_types, rename_types_all, rename_types_group, rename_types_alts}
use Rattle.chw_terms.specs.TermMoves.{rename, rename_all, rename_group, rename_alts, Substitution, up, up_by, under_type, sub, sub_all, sub_group, sub_alts}
use Rattle.chw_terms.proofs.Renamed.{size_renamed, size_retyped, rename_rename, types_types, types_after_rename}

pub size_put : (g : Group) (σ : Substitution) → size_of (sub_group g σ) ≡ size_of g
unfolding sub
size_put no_bindings σ = refl
size_put (bind t e g) σ = ap suc (size_put g σ)

pub up_lift : (ρ : Renaming) (σ : Substitution) → (λ x. up σ (lift ρ x)) ≡ up (λ y. σ (ρ y))
unfolding up
up_lift ρ σ = same _ _ here
  where
    here : (x : ℕ) → up σ (lift ρ x) ≡ up (λ y. σ (ρ y)) x
    here zero = refl
    here (suc x) = refl

pub up_lift_by : (n : ℕ) (ρ : Renaming) (σ : Substitution) → (λ x. up_by n σ (lift_by n ρ x)) ≡ up_by n (λ y. σ (ρ y))
unfolding up_by
up_lift_by zero ρ σ = refl
up_lift_by (suc n) ρ σ = up_lift (lift_by n ρ) (up_by n σ) ∙ ap up (up_lift_by n ρ σ)

-- a putting after a renaming
mutual
  unfolding rename sub

  pub rename_sub : (e : TermTree) (ρ : Renaming) (σ : Substitution) → sub (rename e ρ) σ ≡ sub e (λ x. σ (ρ x))
  rename_sub (var x) ρ σ = refl
  rename_sub (global d) ρ σ = refl
  rename_sub (made m) ρ σ = refl
  rename_sub (lam t e) ρ σ = ap (lam t) (rename_sub e (lift ρ) (up σ) ∙ ap (sub e) (up_lift ρ σ))
  rename_sub (app f a) ρ σ = λ i. app (rename_sub f ρ σ i) (rename_sub a ρ σ i)
  rename_sub (ty_lam k e) ρ σ = ap (ty_lam k) (rename_sub e ρ (under_type σ))
  rename_sub (ty_app f t) ρ σ = λ i. ty_app (rename_sub f ρ σ i) t
  rename_sub (letrec g e) ρ σ =
      let n = size_of g in
      ap (λ k. letrec (sub_group (rename_group g (lift_by n ρ)) (up_by k σ)) (sub (rename e (lift_by n ρ)) (up_by k σ))) (size_renamed g (lift_by n ρ))
      ∙ (λ i. letrec (rename_sub_group g (lift_by n ρ) (up_by n σ) i) (rename_sub e (lift_by n ρ) (up_by n σ) i))
      ∙ ap (λ r. letrec (sub_group g r) (sub e r)) (up_lift_by n ρ σ)
  rename_sub (con c) ρ σ = refl
  rename_sub (prim p) ρ σ = refl
  rename_sub (lit s bs) ρ σ = refl
  rename_sub (vec_lit t es) ρ σ = ap (vec_lit t) (rename_sub_all es ρ σ)
  rename_sub (case_of s alts) ρ σ = λ i. case_of (rename_sub s ρ σ i) (rename_sub_alts alts ρ σ i)

  pub rename_sub_all : (es : Terms) (ρ : Renaming) (σ : Substitution) → sub_all (rename_all es ρ) σ ≡ sub_all es (λ x. σ (ρ x))
  rename_sub_all no_terms ρ σ = refl
  rename_sub_all (term_and e es) ρ σ = λ i. term_and (rename_sub e ρ σ i) (rename_sub_all es ρ σ i)

  pub rename_sub_group : (g : Group) (ρ : Renaming) (σ : Substitution) → sub_group (rename_group g ρ) σ ≡ sub_group g (λ x. σ (ρ x))
  rename_sub_group no_bindings ρ σ = refl
  rename_sub_group (bind t e g) ρ σ = λ i. bind t (rename_sub e ρ σ i) (rename_sub_group g ρ σ i)

  pub rename_sub_alts : (alts : Alts) (ρ : Renaming) (σ : Substitution) → sub_alts (rename_alts alts ρ) σ ≡ sub_alts alts (λ x. σ (ρ x))
  rename_sub_alts no_alts ρ σ = refl
  rename_sub_alts (alt q e more) ρ σ = λ i. alt q ((rename_sub e (lift_by (binders q) ρ) (up_by (binders q) σ) ∙ ap (sub e) (up_lift_by (binders q) ρ σ)) i) (rename_sub_alts more ρ σ i)

pub lift_up : (σ : Substitution) (ρ : Renaming) → (λ x. rename (up σ x) (lift ρ)) ≡ up (λ y. rename (σ y) ρ)
unfolding up rename
lift_up σ ρ = same _ _ here
  where
    here : (x : ℕ) → rename (up σ x) (lift ρ) ≡ up (λ y. rename (σ y) ρ) x
    here zero = refl
    here (suc x) = rename_rename (σ x) suc (lift ρ) ∙ sym (rename_rename (σ x) ρ suc)

pub lift_up_by : (n : ℕ) (σ : Substitution) (ρ : Renaming) → (λ x. rename (up_by n σ x) (lift_by n ρ)) ≡ up_by n (λ y. rename (σ y) ρ)
unfolding up_by
lift_up_by zero σ ρ = refl
lift_up_by (suc n) σ ρ = lift_up (up_by n σ) (lift_by n ρ) ∙ ap up (lift_up_by n σ ρ)

renamed_under_type : (σ : Substitution) (ρ : Renaming) → (λ x. rename (under_type σ x) ρ) ≡ under_type (λ x. rename (σ x) ρ)
renamed_under_type σ ρ = same _ _ (λ x. sym (types_after_rename (σ x) ρ suc))

-- a renaming after a putting
mutual
  unfolding rename sub

  pub sub_rename : (e : TermTree) (σ : Substitution) (ρ : Renaming) → rename (sub e σ) ρ ≡ sub e (λ x. rename (σ x) ρ)
  sub_rename (var x) σ ρ = refl
  sub_rename (global d) σ ρ = refl
  sub_rename (made m) σ ρ = refl
  sub_rename (lam t e) σ ρ = ap (lam t) (sub_rename e (up σ) (lift ρ) ∙ ap (sub e) (lift_up σ ρ))
  sub_rename (app f a) σ ρ = λ i. app (sub_rename f σ ρ i) (sub_rename a σ ρ i)
  sub_rename (ty_lam k e) σ ρ = ap (ty_lam k) (sub_rename e (under_type σ) ρ ∙ ap (sub e) (renamed_under_type σ ρ))
  sub_rename (ty_app f t) σ ρ = λ i. ty_app (sub_rename f σ ρ i) t
  sub_rename (letrec g e) σ ρ =
      let n = size_of g in
      ap (λ k. letrec (rename_group (sub_group g (up_by n σ)) (lift_by k ρ)) (rename (sub e (up_by n σ)) (lift_by k ρ))) (size_put g (up_by n σ))
      ∙ (λ i. letrec (sub_rename_group g (up_by n σ) (lift_by n ρ) i) (sub_rename e (up_by n σ) (lift_by n ρ) i))
      ∙ ap (λ r. letrec (sub_group g r) (sub e r)) (lift_up_by n σ ρ)
  sub_rename (con c) σ ρ = refl
  sub_rename (prim p) σ ρ = refl
  sub_rename (lit s bs) σ ρ = refl
  sub_rename (vec_lit t es) σ ρ = ap (vec_lit t) (sub_rename_all es σ ρ)
  sub_rename (case_of s alts) σ ρ = λ i. case_of (sub_rename s σ ρ i) (sub_rename_alts alts σ ρ i)

  pub sub_rename_all : (es : Terms) (σ : Substitution) (ρ : Renaming) → rename_all (sub_all es σ) ρ ≡ sub_all es (λ x. rename (σ x) ρ)
  sub_rename_all no_terms σ ρ = refl
  sub_rename_all (term_and e es) σ ρ = λ i. term_and (sub_rename e σ ρ i) (sub_rename_all es σ ρ i)

  pub sub_rename_group : (g : Group) (σ : Substitution) (ρ : Renaming) → rename_group (sub_group g σ) ρ ≡ sub_group g (λ x. rename (σ x) ρ)
  sub_rename_group no_bindings σ ρ = refl
  sub_rename_group (bind t e g) σ ρ = λ i. bind t (sub_rename e σ ρ i) (sub_rename_group g σ ρ i)

  pub sub_rename_alts : (alts : Alts) (σ : Substitution) (ρ : Renaming) → rename_alts (sub_alts alts σ) ρ ≡ sub_alts alts (λ x. rename (σ x) ρ)
  sub_rename_alts no_alts σ ρ = refl
  sub_rename_alts (alt q e more) σ ρ = λ i. alt q ((sub_rename e (up_by (binders q) σ) (lift_by (binders q) ρ) ∙ ap (sub e) (lift_up_by (binders q) σ ρ)) i) (sub_rename_alts more σ ρ i)

pub retyped_up : (σ : Substitution) (π : Renaming) → (λ x. rename_types (up σ x) π) ≡ up (λ y. rename_types (σ y) π)
unfolding up rename_types
retyped_up σ π = same _ _ here
  where
    here : (x : ℕ) → rename_types (up σ x) π ≡ up (λ y. rename_types (σ y) π) x
    here zero = refl
    here (suc x) = types_after_rename (σ x) suc π

pub retyped_up_by : (n : ℕ) (σ : Substitution) (π : Renaming) → (λ x. rename_types (up_by n σ x) π) ≡ up_by n (λ y. rename_types (σ y) π)
unfolding up_by
retyped_up_by zero σ π = refl
retyped_up_by (suc n) σ π = retyped_up (up_by n σ) π ∙ ap up (retyped_up_by n σ π)

retyped_under_type : (σ : Substitution) (π : Renaming) → (λ x. rename_types (under_type σ x) (lift π)) ≡ under_type (λ x. rename_types (σ x) π)
retyped_under_type σ π = same _ _ (λ x. types_types (σ x) suc (lift π) ∙ sym (types_types (σ x) π suc))

-- a renaming of type variables after a putting
mutual
  unfolding rename_types sub

  pub types_after_sub : (e : TermTree) (σ : Substitution) (π : Renaming) → rename_types (sub e σ) π ≡ sub (rename_types e π) (λ x. rename_types (σ x) π)
  types_after_sub (var x) σ π = refl
  types_after_sub (global d) σ π = refl
  types_after_sub (made m) σ π = refl
  types_after_sub (lam t e) σ π = ap (lam (rename_type t π)) (types_after_sub e (up σ) π ∙ ap (sub (rename_types e π)) (retyped_up σ π))
  types_after_sub (app f a) σ π = λ i. app (types_after_sub f σ π i) (types_after_sub a σ π i)
  types_after_sub (ty_lam k e) σ π = ap (ty_lam k) (types_after_sub e (under_type σ) (lift π) ∙ ap (sub (rename_types e (lift π))) (retyped_under_type σ π))
  types_after_sub (ty_app f t) σ π = λ i. ty_app (types_after_sub f σ π i) (rename_type t π)
  types_after_sub (letrec g e) σ π =
      let n = size_of g in
      (λ i. letrec (types_after_sub_group g (up_by n σ) π i) (types_after_sub e (up_by n σ) π i))
      ∙ ap (λ r. letrec (sub_group (rename_types_group g π) r) (sub (rename_types e π) r)) (retyped_up_by n σ π)
      ∙ ap (λ m. letrec (sub_group (rename_types_group g π) (up_by m (λ y. rename_types (σ y) π))) (sub (rename_types e π) (up_by m (λ y. rename_types (σ y) π)))) (sym (size_retyped g π))
  types_after_sub (con c) σ π = refl
  types_after_sub (prim p) σ π = refl
  types_after_sub (lit s bs) σ π = refl
  types_after_sub (vec_lit t es) σ π = ap (vec_lit (rename_type t π)) (types_after_sub_all es σ π)
  types_after_sub (case_of s alts) σ π = λ i. case_of (types_after_sub s σ π i) (types_after_sub_alts alts σ π i)

  pub types_after_sub_all : (es : Terms) (σ : Substitution) (π : Renaming) → rename_types_all (sub_all es σ) π ≡ sub_all (rename_types_all es π) (λ x. rename_types (σ x) π)
  types_after_sub_all no_terms σ π = refl
  types_after_sub_all (term_and e es) σ π = λ i. term_and (types_after_sub e σ π i) (types_after_sub_all es σ π i)

  pub types_after_sub_group : (g : Group) (σ : Substitution) (π : Renaming) → rename_types_group (sub_group g σ) π ≡ sub_group (rename_types_group g π) (λ x. rename_types (σ x) π)
  types_after_sub_group no_bindings σ π = refl
  types_after_sub_group (bind t e g) σ π = λ i. bind (rename_type t π) (types_after_sub e σ π i) (types_after_sub_group g σ π i)

  pub types_after_sub_alts : (alts : Alts) (σ : Substitution) (π : Renaming) → rename_types_alts (sub_alts alts σ) π ≡ sub_alts (rename_types_alts alts π) (λ x. rename_types (σ x) π)
  types_after_sub_alts no_alts σ π = refl
  types_after_sub_alts (alt q e more) σ π = λ i. alt q ((types_after_sub e (up_by (binders q) σ) π ∙ ap (sub (rename_types e π)) (retyped_up_by (binders q) σ π)) i) (types_after_sub_alts more σ π i)

pub up_up : (σ τ : Substitution) → (λ x. sub (up σ x) (up τ)) ≡ up (λ y. sub (σ y) τ)
unfolding up sub
up_up σ τ = same _ _ here
  where
    here : (x : ℕ) → sub (up σ x) (up τ) ≡ up (λ y. sub (σ y) τ) x
    here zero = refl
    here (suc x) = rename_sub (σ x) suc (up τ) ∙ sym (sub_rename (σ x) τ suc)

pub up_up_by : (n : ℕ) (σ τ : Substitution) → (λ x. sub (up_by n σ x) (up_by n τ)) ≡ up_by n (λ y. sub (σ y) τ)
unfolding up_by
up_up_by zero σ τ = refl
up_up_by (suc n) σ τ = up_up (up_by n σ) (up_by n τ) ∙ ap up (up_up_by n σ τ)

under_type_twice : (σ τ : Substitution) → (λ x. sub (under_type σ x) (under_type τ)) ≡ under_type (λ x. sub (σ x) τ)
under_type_twice σ τ = same _ _ (λ x. sym (types_after_sub (σ x) τ suc))

-- a putting after a putting
mutual
  unfolding sub

  pub sub_sub : (e : TermTree) (σ τ : Substitution) → sub (sub e σ) τ ≡ sub e (λ x. sub (σ x) τ)
  sub_sub (var x) σ τ = refl
  sub_sub (global d) σ τ = refl
  sub_sub (made m) σ τ = refl
  sub_sub (lam t e) σ τ = ap (lam t) (sub_sub e (up σ) (up τ) ∙ ap (sub e) (up_up σ τ))
  sub_sub (app f a) σ τ = λ i. app (sub_sub f σ τ i) (sub_sub a σ τ i)
  sub_sub (ty_lam k e) σ τ = ap (ty_lam k) (sub_sub e (under_type σ) (under_type τ) ∙ ap (sub e) (under_type_twice σ τ))
  sub_sub (ty_app f t) σ τ = λ i. ty_app (sub_sub f σ τ i) t
  sub_sub (letrec g e) σ τ =
      let n = size_of g in
      ap (λ k. letrec (sub_group (sub_group g (up_by n σ)) (up_by k τ)) (sub (sub e (up_by n σ)) (up_by k τ))) (size_put g (up_by n σ))
      ∙ (λ i. letrec (sub_sub_group g (up_by n σ) (up_by n τ) i) (sub_sub e (up_by n σ) (up_by n τ) i))
      ∙ ap (λ r. letrec (sub_group g r) (sub e r)) (up_up_by n σ τ)
  sub_sub (con c) σ τ = refl
  sub_sub (prim p) σ τ = refl
  sub_sub (lit s bs) σ τ = refl
  sub_sub (vec_lit t es) σ τ = ap (vec_lit t) (sub_sub_all es σ τ)
  sub_sub (case_of s alts) σ τ = λ i. case_of (sub_sub s σ τ i) (sub_sub_alts alts σ τ i)

  pub sub_sub_all : (es : Terms) (σ τ : Substitution) → sub_all (sub_all es σ) τ ≡ sub_all es (λ x. sub (σ x) τ)
  sub_sub_all no_terms σ τ = refl
  sub_sub_all (term_and e es) σ τ = λ i. term_and (sub_sub e σ τ i) (sub_sub_all es σ τ i)

  pub sub_sub_group : (g : Group) (σ τ : Substitution) → sub_group (sub_group g σ) τ ≡ sub_group g (λ x. sub (σ x) τ)
  sub_sub_group no_bindings σ τ = refl
  sub_sub_group (bind t e g) σ τ = λ i. bind t (sub_sub e σ τ i) (sub_sub_group g σ τ i)

  pub sub_sub_alts : (alts : Alts) (σ τ : Substitution) → sub_alts (sub_alts alts σ) τ ≡ sub_alts alts (λ x. sub (σ x) τ)
  sub_sub_alts no_alts σ τ = refl
  sub_sub_alts (alt q e more) σ τ = λ i. alt q ((sub_sub e (up_by (binders q) σ) (up_by (binders q) τ) ∙ ap (sub e) (up_up_by (binders q) σ τ)) i) (sub_sub_alts more σ τ i)

up_none : up var ≡ var
unfolding up rename
up_none = same _ _ here
  where
    here : (x : ℕ) → up var x ≡ var x
    here zero = refl
    here (suc x) = refl

up_by_none : (n : ℕ) → up_by n var ≡ var
unfolding up_by
up_by_none zero = refl
up_by_none (suc n) = ap up (up_by_none n) ∙ up_none

under_type_none : under_type var ≡ var
unfolding rename_types
under_type_none = same _ _ (λ x. refl)

-- each variable put for itself
mutual
  unfolding sub

  pub sub_ids : (e : TermTree) → sub e var ≡ e
  sub_ids (var x) = refl
  sub_ids (global d) = refl
  sub_ids (made m) = refl
  sub_ids (lam t e) = ap (lam t) (ap (sub e) up_none ∙ sub_ids e)
  sub_ids (app f a) = λ i. app (sub_ids f i) (sub_ids a i)
  sub_ids (ty_lam k e) = ap (ty_lam k) (ap (sub e) under_type_none ∙ sub_ids e)
  sub_ids (ty_app f t) = λ i. ty_app (sub_ids f i) t
  sub_ids (letrec g e) = ap (λ r. letrec (sub_group g r) (sub e r)) (up_by_none (size_of g)) ∙ (λ i. letrec (sub_ids_group g i) (sub_ids e i))
  sub_ids (con c) = refl
  sub_ids (prim p) = refl
  sub_ids (lit s bs) = refl
  sub_ids (vec_lit t es) = ap (vec_lit t) (sub_ids_all es)
  sub_ids (case_of s alts) = λ i. case_of (sub_ids s i) (sub_ids_alts alts i)

  pub sub_ids_all : (es : Terms) → sub_all es var ≡ es
  sub_ids_all no_terms = refl
  sub_ids_all (term_and e es) = λ i. term_and (sub_ids e i) (sub_ids_all es i)

  pub sub_ids_group : (g : Group) → sub_group g var ≡ g
  sub_ids_group no_bindings = refl
  sub_ids_group (bind t e g) = λ i. bind t (sub_ids e i) (sub_ids_group g i)

  pub sub_ids_alts : (alts : Alts) → sub_alts alts var ≡ alts
  sub_ids_alts no_alts = refl
  sub_ids_alts (alt q e more) = λ i. alt q ((ap (sub e) (up_by_none (binders q)) ∙ sub_ids e) i) (sub_ids_alts more i)

-- a renaming is a putting of variables
pub rename_is_sub : (e : TermTree) (ρ : Renaming) → rename e ρ ≡ sub e (λ x. var (ρ x))
rename_is_sub e ρ = sym (sub_ids (rename e ρ)) ∙ rename_sub e ρ var
