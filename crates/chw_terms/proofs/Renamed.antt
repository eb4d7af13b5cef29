-- Laws of renaming the variables and the type variables of a term.
use Rattle.std.proofs.Common.{◌≡◌, ℕ, suc, zero, refl, sym, ap, ◌∙◌}
use Rattle.chw_types.specs.TypeMoves.{Renaming, lift, lift_by, rename as rename_type}
use Rattle.chw_types.proofs.TypeLaws.{same, lift_lift, rename_rename as type_rename_rename, rename_ids as type_rename_ids}
use Rattle.chw_terms.specs.TermTree.{TermTree, var, global, made, lam, app, ty_lam, ty_app, letrec, con, prim, lit, vec_lit, case_of, Terms, no_terms, term_and, Group, no_bindings, bind, Alts, no_alts, alt, binders, size_of}
use Rattle.chw_terms.specs.TypesMoved.{rename_types, rename_types_all, rename_types_group, rename_types_alts}
use Rattle.chw_terms.specs.TermMoves.{rename, rename_all, rename_group, rename_alts}

pub size_renamed : (g : Group) (ρ : Renaming) → size_of (rename_group g ρ) ≡ size_of g
unfolding rename
size_renamed no_bindings ρ = refl
size_renamed (bind t e g) ρ = ap suc (size_renamed g ρ)

pub size_retyped : (g : Group) (π : Renaming) → size_of (rename_types_group g π) ≡ size_of g
unfolding rename_types
size_retyped no_bindings π = refl
size_retyped (bind t e g) π = ap suc (size_retyped g π)

pub lift_by_by : (n : ℕ) (ρ π : Renaming) → (λ x. lift_by n π (lift_by n ρ x)) ≡ lift_by n (λ y. π (ρ y))
lift_by_by zero ρ π = refl
lift_by_by (suc n) ρ π = lift_lift (lift_by n ρ) (lift_by n π) ∙ ap lift (lift_by_by n ρ π)

pub lift_none : lift (λ x. x) ≡ (λ x. x)
lift_none = same _ _ here
  where
    here : (x : ℕ) → lift (λ x. x) x ≡ x
    here zero = refl
    here (suc x) = refl

pub lift_by_none : (n : ℕ) → lift_by n (λ x. x) ≡ (λ x. x)
lift_by_none zero = refl
lift_by_none (suc n) = ap lift (lift_by_none n) ∙ lift_none

-- a renaming after a renaming
mutual
  unfolding rename

  pub rename_rename : (e : TermTree) (ρ π : Renaming) → rename (rename e ρ) π ≡ rename e (λ x. π (ρ x))
  rename_rename (var x) ρ π = refl
  rename_rename (global d) ρ π = refl
  rename_rename (made m) ρ π = refl
  rename_rename (lam t e) ρ π = ap (lam t) (rename_rename e (lift ρ) (lift π) ∙ ap (rename e) (lift_lift ρ π))
  rename_rename (app f a) ρ π = λ i. app (rename_rename f ρ π i) (rename_rename a ρ π i)
  rename_rename (ty_lam k e) ρ π = ap (ty_lam k) (rename_rename e ρ π)
  rename_rename (ty_app f t) ρ π = λ i. ty_app (rename_rename f ρ π i) t
  rename_rename (letrec g e) ρ π =
      let n = size_of g in
      ap (λ k. letrec (rename_group (rename_group g (lift_by n ρ)) (lift_by k π)) (rename (rename e (lift_by n ρ)) (lift_by k π))) (size_renamed g (lift_by n ρ))
      ∙ (λ i. letrec (rename_rename_group g (lift_by n ρ) (lift_by n π) i) (rename_rename e (lift_by n ρ) (lift_by n π) i))
      ∙ ap (λ r. letrec (rename_group g r) (rename e r)) (lift_by_by n ρ π)
  rename_rename (con c) ρ π = refl
  rename_rename (prim p) ρ π = refl
  rename_rename (lit s bs) ρ π = refl
  rename_rename (vec_lit t es) ρ π = ap (vec_lit t) (rename_rename_all es ρ π)
  rename_rename (case_of s alts) ρ π = λ i. case_of (rename_rename s ρ π i) (rename_rename_alts alts ρ π i)

  pub rename_rename_all : (es : Terms) (ρ π : Renaming) → rename_all (rename_all es ρ) π ≡ rename_all es (λ x. π (ρ x))
  rename_rename_all no_terms ρ π = refl
  rename_rename_all (term_and e es) ρ π = λ i. term_and (rename_rename e ρ π i) (rename_rename_all es ρ π i)

  pub rename_rename_group : (g : Group) (ρ π : Renaming) → rename_group (rename_group g ρ) π ≡ rename_group g (λ x. π (ρ x))
  rename_rename_group no_bindings ρ π = refl
  rename_rename_group (bind t e g) ρ π = λ i. bind t (rename_rename e ρ π i) (rename_rename_group g ρ π i)

  pub rename_rename_alts : (alts : Alts) (ρ π : Renaming) → rename_alts (rename_alts alts ρ) π ≡ rename_alts alts (λ x. π (ρ x))
  rename_rename_alts no_alts ρ π = refl
  rename_rename_alts (alt q e more) ρ π = λ i. alt q ((rename_rename e (lift_by (binders q) ρ) (lift_by (binders q) π) ∙ ap (rename e) (lift_by_by (binders q) ρ π)) i) (rename_rename_alts more ρ π i)

-- the same for type variables
mutual
  unfolding rename_types

  pub types_types : (e : TermTree) (ρ π : Renaming) → rename_types (rename_types e ρ) π ≡ rename_types e (λ x. π (ρ x))
  types_types (var x) ρ π = refl
  types_types (global d) ρ π = refl
  types_types (made m) ρ π = refl
  types_types (lam t e) ρ π = λ i. lam (type_rename_rename t ρ π i) (types_types e ρ π i)
  types_types (app f a) ρ π = λ i. app (types_types f ρ π i) (types_types a ρ π i)
  types_types (ty_lam k e) ρ π = ap (ty_lam k) (types_types e (lift ρ) (lift π) ∙ ap (rename_types e) (lift_lift ρ π))
  types_types (ty_app f t) ρ π = λ i. ty_app (types_types f ρ π i) (type_rename_rename t ρ π i)
  types_types (letrec g e) ρ π = λ i. letrec (types_types_group g ρ π i) (types_types e ρ π i)
  types_types (con c) ρ π = refl
  types_types (prim p) ρ π = refl
  types_types (lit s bs) ρ π = refl
  types_types (vec_lit t es) ρ π = λ i. vec_lit (type_rename_rename t ρ π i) (types_types_all es ρ π i)
  types_types (case_of s alts) ρ π = λ i. case_of (types_types s ρ π i) (types_types_alts alts ρ π i)

  pub types_types_all : (es : Terms) (ρ π : Renaming) → rename_types_all (rename_types_all es ρ) π ≡ rename_types_all es (λ x. π (ρ x))
  types_types_all no_terms ρ π = refl
  types_types_all (term_and e es) ρ π = λ i. term_and (types_types e ρ π i) (types_types_all es ρ π i)

  pub types_types_group : (g : Group) (ρ π : Renaming) → rename_types_group (rename_types_group g ρ) π ≡ rename_types_group g (λ x. π (ρ x))
  types_types_group no_bindings ρ π = refl
  types_types_group (bind t e g) ρ π = λ i. bind (type_rename_rename t ρ π i) (types_types e ρ π i) (types_types_group g ρ π i)

  pub types_types_alts : (alts : Alts) (ρ π : Renaming) → rename_types_alts (rename_types_alts alts ρ) π ≡ rename_types_alts alts (λ x. π (ρ x))
  types_types_alts no_alts ρ π = refl
  types_types_alts (alt q e more) ρ π = λ i. alt q (types_types e ρ π i) (types_types_alts more ρ π i)

-- variables and type variables are renamed in any order
mutual
  unfolding rename rename_types

  pub types_after_rename : (e : TermTree) (ρ π : Renaming) → rename_types (rename e ρ) π ≡ rename (rename_types e π) ρ
  types_after_rename (var x) ρ π = refl
  types_after_rename (global d) ρ π = refl
  types_after_rename (made m) ρ π = refl
  types_after_rename (lam t e) ρ π = ap (lam (rename_type t π)) (types_after_rename e (lift ρ) π)
  types_after_rename (app f a) ρ π = λ i. app (types_after_rename f ρ π i) (types_after_rename a ρ π i)
  types_after_rename (ty_lam k e) ρ π = ap (ty_lam k) (types_after_rename e ρ (lift π))
  types_after_rename (ty_app f t) ρ π = λ i. ty_app (types_after_rename f ρ π i) (rename_type t π)
  types_after_rename (letrec g e) ρ π =
      let n = size_of g in
      (λ i. letrec (types_after_rename_group g (lift_by n ρ) π i) (types_after_rename e (lift_by n ρ) π i))
      ∙ ap (λ m. letrec (rename_group (rename_types_group g π) (lift_by m ρ)) (rename (rename_types e π) (lift_by m ρ))) (sym (size_retyped g π))
  types_after_rename (con c) ρ π = refl
  types_after_rename (prim p) ρ π = refl
  types_after_rename (lit s bs) ρ π = refl
  types_after_rename (vec_lit t es) ρ π = ap (vec_lit (rename_type t π)) (types_after_rename_all es ρ π)
  types_after_rename (case_of s alts) ρ π = λ i. case_of (types_after_rename s ρ π i) (types_after_rename_alts alts ρ π i)

  pub types_after_rename_all : (es : Terms) (ρ π : Renaming) → rename_types_all (rename_all es ρ) π ≡ rename_all (rename_types_all es π) ρ
  types_after_rename_all no_terms ρ π = refl
  types_after_rename_all (term_and e es) ρ π = λ i. term_and (types_after_rename e ρ π i) (types_after_rename_all es ρ π i)

  pub types_after_rename_group : (g : Group) (ρ π : Renaming) → rename_types_group (rename_group g ρ) π ≡ rename_group (rename_types_group g π) ρ
  types_after_rename_group no_bindings ρ π = refl
  types_after_rename_group (bind t e g) ρ π = λ i. bind (rename_type t π) (types_after_rename e ρ π i) (types_after_rename_group g ρ π i)

  pub types_after_rename_alts : (alts : Alts) (ρ π : Renaming) → rename_types_alts (rename_alts alts ρ) π ≡ rename_alts (rename_types_alts alts π) ρ
  types_after_rename_alts no_alts ρ π = refl
  types_after_rename_alts (alt q e more) ρ π = λ i. alt q (types_after_rename e (lift_by (binders q) ρ) π i) (types_after_rename_alts more ρ π i)

-- each variable for itself
mutual
  unfolding rename

  pub rename_ids : (e : TermTree) → rename e (λ x. x) ≡ e
  rename_ids (var x) = refl
  rename_ids (global d) = refl
  rename_ids (made m) = refl
  rename_ids (lam t e) = ap (lam t) (ap (rename e) lift_none ∙ rename_ids e)
  rename_ids (app f a) = λ i. app (rename_ids f i) (rename_ids a i)
  rename_ids (ty_lam k e) = ap (ty_lam k) (rename_ids e)
  rename_ids (ty_app f t) = λ i. ty_app (rename_ids f i) t
  rename_ids (letrec g e) = ap (λ r. letrec (rename_group g r) (rename e r)) (lift_by_none (size_of g)) ∙ (λ i. letrec (rename_ids_group g i) (rename_ids e i))
  rename_ids (con c) = refl
  rename_ids (prim p) = refl
  rename_ids (lit s bs) = refl
  rename_ids (vec_lit t es) = ap (vec_lit t) (rename_ids_all es)
  rename_ids (case_of s alts) = λ i. case_of (rename_ids s i) (rename_ids_alts alts i)

  pub rename_ids_all : (es : Terms) → rename_all es (λ x. x) ≡ es
  rename_ids_all no_terms = refl
  rename_ids_all (term_and e es) = λ i. term_and (rename_ids e i) (rename_ids_all es i)

  pub rename_ids_group : (g : Group) → rename_group g (λ x. x) ≡ g
  rename_ids_group no_bindings = refl
  rename_ids_group (bind t e g) = λ i. bind t (rename_ids e i) (rename_ids_group g i)

  pub rename_ids_alts : (alts : Alts) → rename_alts alts (λ x. x) ≡ alts
  rename_ids_alts no_alts = refl
  rename_ids_alts (alt q e more) = λ i. alt q ((ap (rename e) (lift_by_none (binders q)) ∙ rename_ids e) i) (rename_ids_alts more i)

-- each type variable for itself
mutual
  unfolding rename_types

  pub types_ids : (e : TermTree) → rename_types e (λ x. x) ≡ e
  types_ids (var x) = refl
  types_ids (global d) = refl
  types_ids (made m) = refl
  types_ids (lam t e) = λ i. lam (type_rename_ids t i) (types_ids e i)
  types_ids (app f a) = λ i. app (types_ids f i) (types_ids a i)
  types_ids (ty_lam k e) = ap (ty_lam k) (ap (rename_types e) lift_none ∙ types_ids e)
  types_ids (ty_app f t) = λ i. ty_app (types_ids f i) (type_rename_ids t i)
  types_ids (letrec g e) = λ i. letrec (types_ids_group g i) (types_ids e i)
  types_ids (con c) = refl
  types_ids (prim p) = refl
  types_ids (lit s bs) = refl
  types_ids (vec_lit t es) = λ i. vec_lit (type_rename_ids t i) (types_ids_all es i)
  types_ids (case_of s alts) = λ i. case_of (types_ids s i) (types_ids_alts alts i)

  pub types_ids_all : (es : Terms) → rename_types_all es (λ x. x) ≡ es
  types_ids_all no_terms = refl
  types_ids_all (term_and e es) = λ i. term_and (types_ids e i) (types_ids_all es i)

  pub types_ids_group : (g : Group) → rename_types_group g (λ x. x) ≡ g
  types_ids_group no_bindings = refl
  types_ids_group (bind t e g) = λ i. bind (type_rename_ids t i) (types_ids e i) (types_ids_group g i)

  pub types_ids_alts : (alts : Alts) → rename_types_alts alts (λ x. x) ≡ alts
  types_ids_alts no_alts = refl
  types_ids_alts (alt q e more) = λ i. alt q (types_ids e i) (types_ids_alts more i)
