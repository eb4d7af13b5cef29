-- Laws of evaluating the closed naturals of terms.
use Rattle.std.proofs.Common.{◌≡◌, ℕ, suc, zero, refl, sym, ap, ◌∙◌}
use Rattle.chw_types.specs.TypeTree.{ty_var}
use Rattle.chw_types.specs.TypeMoves.{Renaming, lift, lift_by, Substitution as TypeSubstitution, up as up_type}
use Rattle.chw_types.proofs.TypeLaws.{same}
use Rattle.chw_terms.specs.TermTree.{TermTree, var, global, made, lam, app, ty_lam, ty_app, letrec, con, prim, lit, vec_lit, case_of, Terms, no_terms, term_and, Group, no_bindings, bind, Alts, no_alts, alt, binders, size_of}
use Rattle.chw_terms.specs.TypesMoved.{rename_types, rename_types_all, rename_types_group, rename_types_alts, sub_types, sub_types_all, sub_types_group, sub_types_alts}
use Rattle.chw_terms.specs.TermMoves.{rename, rename_all, rename_group, rename_alts, Substitution, up, up_by, under_type, sub, sub_all, sub_group, sub_alts, put_at, put}
use Rattle.chw_terms.specs.Evaluated.{evaluated, evaluated_in, evaluated_in_all, evaluated_in_group, evaluated_in_alts}
use Rattle.chw_terms.proofs.TypesPut.{put_types_after_rename, put_types_after_sub, types_sub_ids}
use Rattle.chw_terms.proofs.TypesEvaluated.{evaluated_renamed, evaluated_up, evaluated_put, put_evaluated}

pub size_evaluated : (g : Group) → size_of (evaluated_in_group g) ≡ size_of g
unfolding evaluated_in
size_evaluated no_bindings = refl
size_evaluated (bind t e g) = ap suc (size_evaluated g)

-- variables are renamed before or after
mutual
  unfolding rename evaluated_in

  pub evaluated_in_rename : (e : TermTree) (ρ : Renaming) → evaluated_in (rename e ρ) ≡ rename (evaluated_in e) ρ
  evaluated_in_rename (var x) ρ = refl
  evaluated_in_rename (global d) ρ = refl
  evaluated_in_rename (made m) ρ = refl
  evaluated_in_rename (lam t e) ρ = ap (lam (evaluated t)) (evaluated_in_rename e (lift ρ))
  evaluated_in_rename (app f a) ρ = λ i. app (evaluated_in_rename f ρ i) (evaluated_in_rename a ρ i)
  evaluated_in_rename (ty_lam k e) ρ = ap (ty_lam k) (evaluated_in_rename e ρ)
  evaluated_in_rename (ty_app f t) ρ = λ i. ty_app (evaluated_in_rename f ρ i) (evaluated t)
  evaluated_in_rename (letrec g e) ρ =
      let n = size_of g in
      (λ i. letrec (evaluated_in_rename_group g (lift_by n ρ) i) (evaluated_in_rename e (lift_by n ρ) i))
      ∙ ap (λ m. letrec (rename_group (evaluated_in_group g) (lift_by m ρ)) (rename (evaluated_in e) (lift_by m ρ))) (sym (size_evaluated g))
  evaluated_in_rename (con c) ρ = refl
  evaluated_in_rename (prim p) ρ = refl
  evaluated_in_rename (lit s bs) ρ = refl
  evaluated_in_rename (vec_lit t es) ρ = ap (vec_lit (evaluated t)) (evaluated_in_rename_all es ρ)
  evaluated_in_rename (case_of s alts) ρ = λ i. case_of (evaluated_in_rename s ρ i) (evaluated_in_rename_alts alts ρ i)

  pub evaluated_in_rename_all : (es : Terms) (ρ : Renaming) → evaluated_in_all (rename_all es ρ) ≡ rename_all (evaluated_in_all es) ρ
  evaluated_in_rename_all no_terms ρ = refl
  evaluated_in_rename_all (term_and e es) ρ = λ i. term_and (evaluated_in_rename e ρ i) (evaluated_in_rename_all es ρ i)

  pub evaluated_in_rename_group : (g : Group) (ρ : Renaming) → evaluated_in_group (rename_group g ρ) ≡ rename_group (evaluated_in_group g) ρ
  evaluated_in_rename_group no_bindings ρ = refl
  evaluated_in_rename_group (bind t e g) ρ = λ i. bind (evaluated t) (evaluated_in_rename e ρ i) (evaluated_in_rename_group g ρ i)

  pub evaluated_in_rename_alts : (alts : Alts) (ρ : Renaming) → evaluated_in_alts (rename_alts alts ρ) ≡ rename_alts (evaluated_in_alts alts) ρ
  evaluated_in_rename_alts no_alts ρ = refl
  evaluated_in_rename_alts (alt q e more) ρ = λ i. alt q (evaluated_in_rename e (lift_by (binders q) ρ) i) (evaluated_in_rename_alts more ρ i)

-- type variables are renamed before or after
mutual
  unfolding rename_types evaluated_in

  pub evaluated_in_retyped : (e : TermTree) (π : Renaming) → evaluated_in (rename_types e π) ≡ rename_types (evaluated_in e) π
  evaluated_in_retyped (var x) π = refl
  evaluated_in_retyped (global d) π = refl
  evaluated_in_retyped (made m) π = refl
  evaluated_in_retyped (lam t e) π = λ i. lam (evaluated_renamed t π i) (evaluated_in_retyped e π i)
  evaluated_in_retyped (app f a) π = λ i. app (evaluated_in_retyped f π i) (evaluated_in_retyped a π i)
  evaluated_in_retyped (ty_lam k e) π = ap (ty_lam k) (evaluated_in_retyped e (lift π))
  evaluated_in_retyped (ty_app f t) π = λ i. ty_app (evaluated_in_retyped f π i) (evaluated_renamed t π i)
  evaluated_in_retyped (letrec g e) π = λ i. letrec (evaluated_in_retyped_group g π i) (evaluated_in_retyped e π i)
  evaluated_in_retyped (con c) π = refl
  evaluated_in_retyped (prim p) π = refl
  evaluated_in_retyped (lit s bs) π = refl
  evaluated_in_retyped (vec_lit t es) π = λ i. vec_lit (evaluated_renamed t π i) (evaluated_in_retyped_all es π i)
  evaluated_in_retyped (case_of s alts) π = λ i. case_of (evaluated_in_retyped s π i) (evaluated_in_retyped_alts alts π i)

  pub evaluated_in_retyped_all : (es : Terms) (π : Renaming) → evaluated_in_all (rename_types_all es π) ≡ rename_types_all (evaluated_in_all es) π
  evaluated_in_retyped_all no_terms π = refl
  evaluated_in_retyped_all (term_and e es) π = λ i. term_and (evaluated_in_retyped e π i) (evaluated_in_retyped_all es π i)

  pub evaluated_in_retyped_group : (g : Group) (π : Renaming) → evaluated_in_group (rename_types_group g π) ≡ rename_types_group (evaluated_in_group g) π
  evaluated_in_retyped_group no_bindings π = refl
  evaluated_in_retyped_group (bind t e g) π = λ i. bind (evaluated_renamed t π i) (evaluated_in_retyped e π i) (evaluated_in_retyped_group g π i)

  pub evaluated_in_retyped_alts : (alts : Alts) (π : Renaming) → evaluated_in_alts (rename_types_alts alts π) ≡ rename_types_alts (evaluated_in_alts alts) π
  evaluated_in_retyped_alts no_alts π = refl
  evaluated_in_retyped_alts (alt q e more) π = λ i. alt q (evaluated_in_retyped e π i) (evaluated_in_retyped_alts more π i)

-- the term may be evaluated before types are put into it
mutual
  unfolding sub_types evaluated_in

  pub evaluated_in_typed : (e : TermTree) (τ : TypeSubstitution) → evaluated_in (sub_types (evaluated_in e) τ) ≡ evaluated_in (sub_types e τ)
  evaluated_in_typed (var x) τ = refl
  evaluated_in_typed (global d) τ = refl
  evaluated_in_typed (made m) τ = refl
  evaluated_in_typed (lam t e) τ = λ i. lam (evaluated_put t τ i) (evaluated_in_typed e τ i)
  evaluated_in_typed (app f a) τ = λ i. app (evaluated_in_typed f τ i) (evaluated_in_typed a τ i)
  evaluated_in_typed (ty_lam k e) τ = ap (ty_lam k) (evaluated_in_typed e (up_type τ))
  evaluated_in_typed (ty_app f t) τ = λ i. ty_app (evaluated_in_typed f τ i) (evaluated_put t τ i)
  evaluated_in_typed (letrec g e) τ = λ i. letrec (evaluated_in_typed_group g τ i) (evaluated_in_typed e τ i)
  evaluated_in_typed (con c) τ = refl
  evaluated_in_typed (prim p) τ = refl
  evaluated_in_typed (lit s bs) τ = refl
  evaluated_in_typed (vec_lit t es) τ = λ i. vec_lit (evaluated_put t τ i) (evaluated_in_typed_all es τ i)
  evaluated_in_typed (case_of s alts) τ = λ i. case_of (evaluated_in_typed s τ i) (evaluated_in_typed_alts alts τ i)

  pub evaluated_in_typed_all : (es : Terms) (τ : TypeSubstitution) → evaluated_in_all (sub_types_all (evaluated_in_all es) τ) ≡ evaluated_in_all (sub_types_all es τ)
  evaluated_in_typed_all no_terms τ = refl
  evaluated_in_typed_all (term_and e es) τ = λ i. term_and (evaluated_in_typed e τ i) (evaluated_in_typed_all es τ i)

  pub evaluated_in_typed_group : (g : Group) (τ : TypeSubstitution) → evaluated_in_group (sub_types_group (evaluated_in_group g) τ) ≡ evaluated_in_group (sub_types_group g τ)
  evaluated_in_typed_group no_bindings τ = refl
  evaluated_in_typed_group (bind t e g) τ = λ i. bind (evaluated_put t τ i) (evaluated_in_typed e τ i) (evaluated_in_typed_group g τ i)

  pub evaluated_in_typed_alts : (alts : Alts) (τ : TypeSubstitution) → evaluated_in_alts (sub_types_alts (evaluated_in_alts alts) τ) ≡ evaluated_in_alts (sub_types_alts alts τ)
  evaluated_in_typed_alts no_alts τ = refl
  evaluated_in_typed_alts (alt q e more) τ = λ i. alt q (evaluated_in_typed e τ i) (evaluated_in_typed_alts more τ i)

-- and the types before they are put
mutual
  unfolding sub_types evaluated_in

  pub typed_evaluated : (e : TermTree) (τ : TypeSubstitution) → evaluated_in (sub_types e (λ x. evaluated (τ x))) ≡ evaluated_in (sub_types e τ)
  typed_evaluated (var x) τ = refl
  typed_evaluated (global d) τ = refl
  typed_evaluated (made m) τ = refl
  typed_evaluated (lam t e) τ = λ i. lam (put_evaluated t τ i) (typed_evaluated e τ i)
  typed_evaluated (app f a) τ = λ i. app (typed_evaluated f τ i) (typed_evaluated a τ i)
  typed_evaluated (ty_lam k e) τ = ap (ty_lam k) (ap (λ σ. evaluated_in (sub_types e σ)) (sym (evaluated_up τ)) ∙ typed_evaluated e (up_type τ))
  typed_evaluated (ty_app f t) τ = λ i. ty_app (typed_evaluated f τ i) (put_evaluated t τ i)
  typed_evaluated (letrec g e) τ = λ i. letrec (typed_evaluated_group g τ i) (typed_evaluated e τ i)
  typed_evaluated (con c) τ = refl
  typed_evaluated (prim p) τ = refl
  typed_evaluated (lit s bs) τ = refl
  typed_evaluated (vec_lit t es) τ = λ i. vec_lit (put_evaluated t τ i) (typed_evaluated_all es τ i)
  typed_evaluated (case_of s alts) τ = λ i. case_of (typed_evaluated s τ i) (typed_evaluated_alts alts τ i)

  pub typed_evaluated_all : (es : Terms) (τ : TypeSubstitution) → evaluated_in_all (sub_types_all es (λ x. evaluated (τ x))) ≡ evaluated_in_all (sub_types_all es τ)
  typed_evaluated_all no_terms τ = refl
  typed_evaluated_all (term_and e es) τ = λ i. term_and (typed_evaluated e τ i) (typed_evaluated_all es τ i)

  pub typed_evaluated_group : (g : Group) (τ : TypeSubstitution) → evaluated_in_group (sub_types_group g (λ x. evaluated (τ x))) ≡ evaluated_in_group (sub_types_group g τ)
  typed_evaluated_group no_bindings τ = refl
  typed_evaluated_group (bind t e g) τ = λ i. bind (put_evaluated t τ i) (typed_evaluated e τ i) (typed_evaluated_group g τ i)

  pub typed_evaluated_alts : (alts : Alts) (τ : TypeSubstitution) → evaluated_in_alts (sub_types_alts alts (λ x. evaluated (τ x))) ≡ evaluated_in_alts (sub_types_alts alts τ)
  typed_evaluated_alts no_alts τ = refl
  typed_evaluated_alts (alt q e more) τ = λ i. alt q (typed_evaluated e τ i) (typed_evaluated_alts more τ i)

-- what was evaluated stays
pub evaluated_in_twice : (e : TermTree) → evaluated_in (evaluated_in e) ≡ evaluated_in e
evaluated_in_twice e = ap evaluated_in (sym (types_sub_ids (evaluated_in e))) ∙ evaluated_in_typed e ty_var ∙ ap evaluated_in (types_sub_ids e)

evaluated_in_up : (σ : Substitution) → (λ x. evaluated_in (up σ x)) ≡ up (λ x. evaluated_in (σ x))
unfolding up evaluated_in
evaluated_in_up σ = same _ _ here
  where
    here : (x : ℕ) → evaluated_in (up σ x) ≡ up (λ x. evaluated_in (σ x)) x
    here zero = refl
    here (suc x) = evaluated_in_rename (σ x) suc

evaluated_in_up_by : (n : ℕ) (σ : Substitution) → (λ x. evaluated_in (up_by n σ x)) ≡ up_by n (λ x. evaluated_in (σ x))
unfolding up_by
evaluated_in_up_by zero σ = refl
evaluated_in_up_by (suc n) σ = evaluated_in_up (up_by n σ) ∙ ap up (evaluated_in_up_by n σ)

evaluated_in_under_type : (σ : Substitution) → (λ x. evaluated_in (under_type σ x)) ≡ under_type (λ x. evaluated_in (σ x))
evaluated_in_under_type σ = same _ _ (λ x. evaluated_in_retyped (σ x) suc)

-- terms are put before or after
mutual
  unfolding sub evaluated_in

  pub evaluated_in_sub : (e : TermTree) (σ : Substitution) → evaluated_in (sub e σ) ≡ sub (evaluated_in e) (λ x. evaluated_in (σ x))
  evaluated_in_sub (var x) σ = refl
  evaluated_in_sub (global d) σ = refl
  evaluated_in_sub (made m) σ = refl
  evaluated_in_sub (lam t e) σ = ap (lam (evaluated t)) (evaluated_in_sub e (up σ) ∙ ap (sub (evaluated_in e)) (evaluated_in_up σ))
  evaluated_in_sub (app f a) σ = λ i. app (evaluated_in_sub f σ i) (evaluated_in_sub a σ i)
  evaluated_in_sub (ty_lam k e) σ = ap (ty_lam k) (evaluated_in_sub e (under_type σ) ∙ ap (sub (evaluated_in e)) (evaluated_in_under_type σ))
  evaluated_in_sub (ty_app f t) σ = λ i. ty_app (evaluated_in_sub f σ i) (evaluated t)
  evaluated_in_sub (letrec g e) σ =
      let n = size_of g in
      (λ i. letrec (evaluated_in_sub_group g (up_by n σ) i) (evaluated_in_sub e (up_by n σ) i))
      ∙ ap (λ r. letrec (sub_group (evaluated_in_group g) r) (sub (evaluated_in e) r)) (evaluated_in_up_by n σ)
      ∙ ap (λ m. letrec (sub_group (evaluated_in_group g) (up_by m (λ x. evaluated_in (σ x)))) (sub (evaluated_in e) (up_by m (λ x. evaluated_in (σ x))))) (sym (size_evaluated g))
  evaluated_in_sub (con c) σ = refl
  evaluated_in_sub (prim p) σ = refl
  evaluated_in_sub (lit s bs) σ = refl
  evaluated_in_sub (vec_lit t es) σ = ap (vec_lit (evaluated t)) (evaluated_in_sub_all es σ)
  evaluated_in_sub (case_of s alts) σ = λ i. case_of (evaluated_in_sub s σ i) (evaluated_in_sub_alts alts σ i)

  pub evaluated_in_sub_all : (es : Terms) (σ : Substitution) → evaluated_in_all (sub_all es σ) ≡ sub_all (evaluated_in_all es) (λ x. evaluated_in (σ x))
  evaluated_in_sub_all no_terms σ = refl
  evaluated_in_sub_all (term_and e es) σ = λ i. term_and (evaluated_in_sub e σ i) (evaluated_in_sub_all es σ i)

  pub evaluated_in_sub_group : (g : Group) (σ : Substitution) → evaluated_in_group (sub_group g σ) ≡ sub_group (evaluated_in_group g) (λ x. evaluated_in (σ x))
  evaluated_in_sub_group no_bindings σ = refl
  evaluated_in_sub_group (bind t e g) σ = λ i. bind (evaluated t) (evaluated_in_sub e σ i) (evaluated_in_sub_group g σ i)

  pub evaluated_in_sub_alts : (alts : Alts) (σ : Substitution) → evaluated_in_alts (sub_alts alts σ) ≡ sub_alts (evaluated_in_alts alts) (λ x. evaluated_in (σ x))
  evaluated_in_sub_alts no_alts σ = refl
  evaluated_in_sub_alts (alt q e more) σ = λ i. alt q ((evaluated_in_sub e (up_by (binders q) σ) ∙ ap (sub (evaluated_in e)) (evaluated_in_up_by (binders q) σ)) i) (evaluated_in_sub_alts more σ i)

-- types and terms may both be evaluated before they are put together
pub evaluated_both : (e : TermTree) (τ : TypeSubstitution) → evaluated_in (sub_types (evaluated_in e) (λ x. evaluated (τ x))) ≡ evaluated_in (sub_types e τ)
evaluated_both e τ = typed_evaluated (evaluated_in e) τ ∙ evaluated_in_typed e τ

pub put_at_mapped : (F : TermTree → TermTree) → ((e : TermTree) → F (rename e suc) ≡ rename (F e) suc) → ((x : ℕ) → F (var x) ≡ var x) → (c : ℕ) (a : TermTree) (x : ℕ) → F (put_at c a x) ≡ put_at c (F a) x
unfolding put_at up_by up
put_at_mapped F r v zero a zero = refl
put_at_mapped F r v zero a (suc x) = v x
put_at_mapped F r v (suc c) a zero = v 0
put_at_mapped F r v (suc c) a (suc x) = r (put_at c a x) ∙ ap (λ e. rename e suc) (put_at_mapped F r v c a x)

-- a putting of types, at the variables of a putting of one term
put_at_typed : (τ : TypeSubstitution) (c : ℕ) (a : TermTree) (x : ℕ) → sub_types (put_at c a x) τ ≡ put_at c (sub_types a τ) x
unfolding sub_types
put_at_typed τ = put_at_mapped (λ e. sub_types e τ) (λ e. put_types_after_rename e suc τ) (λ x. refl)

pub put_types_put : (e b : TermTree) (τ : TypeSubstitution) (c : ℕ) → sub_types (put e c b) τ ≡ put (sub_types e τ) c (sub_types b τ)
put_types_put e b τ c = put_types_after_sub e (put_at c b) τ ∙ ap (sub (sub_types e τ)) (same _ _ (put_at_typed τ c b))

put_at_evaluated : (c : ℕ) (a : TermTree) (x : ℕ) → evaluated_in (put_at c a x) ≡ put_at c (evaluated_in a) x
unfolding evaluated_in
put_at_evaluated = put_at_mapped evaluated_in (λ e. evaluated_in_rename e suc) (λ x. refl)

pub evaluated_in_put : (e b : TermTree) (c : ℕ) → evaluated_in (put e c b) ≡ put (evaluated_in e) c (evaluated_in b)
evaluated_in_put e b c = evaluated_in_sub e (put_at c b) ∙ ap (sub (evaluated_in e)) (same _ _ (put_at_evaluated c b))
