-- A term as one side has it: with terms put for its variables, types for its type variables, and closed terms for its made definitions.
use Rattle.std.specs.Prelude.{slice_get}
use Rattle.std.proofs.Common.{◌≡◌, ℕ, suc, zero, List, ◌∷◌, length, Some, refl, sym, ap, ◌∙◌}
use Rattle.chw_types.specs.declared.kind.Kind.{Kind}
use Rattle.chw_types.specs.TypeTree.{TypeTree, ty_var, TypeTrees, type_and}
use Rattle.chw_types.specs.TypeMoves.{Renaming, lift, lift_by, rename as rename_type, Substitution as TypeSubstitution, up as up_type, sub as sub_type}
use Rattle.chw_types.proofs.TypeLaws.{same as same_function, rename_sub, sub_sub, sub_ids}
use Rattle.chw_terms.specs.declared.program.Program.{Program}
use Rattle.chw_terms.specs.Evaluated.{evaluated, evaluated_in, evaluated_in_all, evaluated_in_group, evaluated_in_alts}
use Rattle.chw_terms.specs.TermMoves.{rename, rename_all, rename_group, rename_alts, Substitution, up, up_by, under_type, sub, sub_all, sub_group, sub_alts}
use Rattle.chw_terms.specs.TermTree.{TermTree, var, global, made, lam, app, ty_lam, ty_app, letrec, con, prim, lit, vec_lit, case_of, Terms, no_terms, term_and, Group, no_bindings, bind, Alts, no_alts, alt, binders, size_of}
use Rattle.chw_terms.specs.TypesMoved.{rename_types, rename_types_all, rename_types_group, rename_types_alts, sub_types, sub_types_all, sub_types_group, sub_types_alts}
use Rattle.chw_terms.proofs.Renamed.{types_ids, types_ids_alts}
use Rattle.chw_terms.proofs.TypesEvaluated.{evaluated_put, put_evaluated}
use Rattle.type_laws.proofs.PutSame.{renamed_is}
use Rattle.chw_typing.specs.Scopes.{HasKind, declared}
use Rattle.chw_typing.specs.Programs.{setting_of}
use Rattle.chw_typing.proofs.PutAgreeing.{put_agreeing}
use Rattle.chw_meaning.specs.Values.{type_at, closed_type}
use Rattle.rewriting.specs.Origins.{with_origins, with_origins_all, with_origins_group, with_origins_alts}

unfoldable mutual
  -- the function is what becomes of types besides: they are evaluated, or stay
  pub filled : (ℕ → TermTree) → (TypeTree → TypeTree) → TermTree → Substitution → TypeSubstitution → TermTree
  filled o f (var x) σ τ = with_origins o (σ x)
  filled o f (global d) σ τ = global d
  filled o f (made m) σ τ = o m
  filled o f (lam t e) σ τ = lam (f (sub_type t τ)) (filled o f e (up σ) τ)
  filled o f (app g e) σ τ = app (filled o f g σ τ) (filled o f e σ τ)
  filled o f (ty_lam k e) σ τ = ty_lam k (filled o f e (under_type σ) (up_type τ))
  filled o f (ty_app e t) σ τ = ty_app (filled o f e σ τ) (f (sub_type t τ))
  filled o f (letrec g e) σ τ =
      letrec (filled_group o f g (up_by (size_of g) σ) τ) (filled o f e (up_by (size_of g) σ) τ)
  filled o f (con c) σ τ = con c
  filled o f (prim q) σ τ = prim q
  filled o f (lit s b) σ τ = lit s b
  filled o f (vec_lit t es) σ τ = vec_lit (f (sub_type t τ)) (filled_all o f es σ τ)
  filled o f (case_of e alts) σ τ = case_of (filled o f e σ τ) (filled_alts o f alts σ τ)

  pub filled_all : (ℕ → TermTree) → (TypeTree → TypeTree) → Terms → Substitution → TypeSubstitution → Terms
  filled_all o f no_terms σ τ = no_terms
  filled_all o f (term_and e es) σ τ = term_and (filled o f e σ τ) (filled_all o f es σ τ)

  pub filled_group : (ℕ → TermTree) → (TypeTree → TypeTree) → Group → Substitution → TypeSubstitution → Group
  filled_group o f no_bindings σ τ = no_bindings
  filled_group o f (bind t e g) σ τ = bind (f (sub_type t τ)) (filled o f e σ τ) (filled_group o f g σ τ)

  pub filled_alts : (ℕ → TermTree) → (TypeTree → TypeTree) → Alts → Substitution → TypeSubstitution → Alts
  filled_alts o f no_alts σ τ = no_alts
  filled_alts o f (alt q e more) σ τ = alt q (filled o f e (up_by (binders q) σ) τ) (filled_alts o f more σ τ)

up_type_variables : (π : Renaming) → up_type (λ x. ty_var (π x)) ≡ (λ x. ty_var (lift π x))
unfolding up_type rename_type
up_type_variables π = same_function (up_type (λ x. ty_var (π x))) (λ x. ty_var (lift π x)) here
  where
    here : (x : ℕ) → up_type (λ x. ty_var (π x)) x ≡ ty_var (lift π x)
    here zero = refl
    here (suc x) = refl

up_type_none : up_type ty_var ≡ ty_var
unfolding up_type rename_type
up_type_none = same_function (up_type ty_var) ty_var here
  where
    here : (x : ℕ) → up_type ty_var x ≡ ty_var x
    here zero = refl
    here (suc x) = refl

mutual
  unfolding filled sub with_origins

  -- terms put, and no type variable moved
  pub filled_put : (o : ℕ → TermTree) (e : TermTree) (σ : Substitution) → filled o (λ t. t) e σ ty_var ≡ with_origins o (sub e σ)
  filled_put o (var x) σ = refl
  filled_put o (global d) σ = refl
  filled_put o (made m) σ = refl
  filled_put o (lam t e) σ = λ i. lam (sub_ids t i) (filled_put o e (up σ) i)
  filled_put o (app a e) σ = λ i. app (filled_put o a σ i) (filled_put o e σ i)
  filled_put o (ty_lam k e) σ = ap (λ τ. ty_lam k (filled o (λ t. t) e (under_type σ) τ)) up_type_none ∙ ap (ty_lam k) (filled_put o e (under_type σ))
  filled_put o (ty_app e t) σ = λ i. ty_app (filled_put o e σ i) (sub_ids t i)
  filled_put o (letrec g e) σ = λ i. letrec (filled_put_group o g (up_by (size_of g) σ) i) (filled_put o e (up_by (size_of g) σ) i)
  filled_put o (con c) σ = refl
  filled_put o (prim q) σ = refl
  filled_put o (lit s b) σ = refl
  filled_put o (vec_lit t es) σ = λ i. vec_lit (sub_ids t i) (filled_put_all o es σ i)
  filled_put o (case_of e alts) σ = λ i. case_of (filled_put o e σ i) (filled_put_alts o alts σ i)

  filled_put_all : (o : ℕ → TermTree) (es : Terms) (σ : Substitution) → filled_all o (λ t. t) es σ ty_var ≡ with_origins_all o (sub_all es σ)
  filled_put_all o no_terms σ = refl
  filled_put_all o (term_and e es) σ = λ i. term_and (filled_put o e σ i) (filled_put_all o es σ i)

  filled_put_group : (o : ℕ → TermTree) (g : Group) (σ : Substitution) → filled_group o (λ t. t) g σ ty_var ≡ with_origins_group o (sub_group g σ)
  filled_put_group o no_bindings σ = refl
  filled_put_group o (bind t e g) σ = λ i. bind (sub_ids t i) (filled_put o e σ i) (filled_put_group o g σ i)

  filled_put_alts : (o : ℕ → TermTree) (alts : Alts) (σ : Substitution) → filled_alts o (λ t. t) alts σ ty_var ≡ with_origins_alts o (sub_alts alts σ)
  filled_put_alts o no_alts σ = refl
  filled_put_alts o (alt q e more) σ = λ i. alt q (filled_put o e (up_by (binders q) σ) i) (filled_put_alts o more σ i)

up_variables : (ρ : Renaming) → up (λ x. var (ρ x)) ≡ (λ x. var (lift ρ x))
unfolding up rename
up_variables ρ = same_function (up (λ x. var (ρ x))) (λ x. var (lift ρ x)) here
  where
    here : (x : ℕ) → up (λ x. var (ρ x)) x ≡ var (lift ρ x)
    here zero = refl
    here (suc x) = refl

pub up_by_variables : (n : ℕ) (ρ : Renaming) → up_by n (λ x. var (ρ x)) ≡ (λ x. var (lift_by n ρ x))
unfolding up_by
up_by_variables zero ρ = refl
up_by_variables (suc n) ρ = ap up (up_by_variables n ρ) ∙ up_variables (lift_by n ρ)

-- variables renamed
abbrev pub variables_by : Renaming → Substitution
variables_by ρ = λ x. var (ρ x)

mutual
  unfolding filled rename rename_types with_origins

  -- type variables renamed
  pub filled_retyped : (o : ℕ → TermTree) (e : TermTree) (ρ π : Renaming) → filled o (λ t. t) e (variables_by ρ) (λ x. ty_var (π x)) ≡ with_origins o (rename_types (rename e ρ) π)
  filled_retyped o (var x) ρ π = refl
  filled_retyped o (global d) ρ π = refl
  filled_retyped o (made m) ρ π = refl
  filled_retyped o (lam t e) ρ π = ap (λ σ. lam (sub_type t (λ x. ty_var (π x))) (filled o (λ t. t) e σ (λ x. ty_var (π x)))) (up_variables ρ) ∙ (λ i. lam (sym (renamed_is t π) i) (filled_retyped o e (lift ρ) π i))
  filled_retyped o (app a e) ρ π = λ i. app (filled_retyped o a ρ π i) (filled_retyped o e ρ π i)
  filled_retyped o (ty_lam k e) ρ π = ap (λ τ. ty_lam k (filled o (λ t. t) e (variables_by ρ) τ)) (up_type_variables π) ∙ ap (ty_lam k) (filled_retyped o e ρ (lift π))
  filled_retyped o (ty_app e t) ρ π = λ i. ty_app (filled_retyped o e ρ π i) (sym (renamed_is t π) i)
  filled_retyped o (letrec g e) ρ π = ap (λ σ. letrec (filled_group o (λ t. t) g σ (λ x. ty_var (π x))) (filled o (λ t. t) e σ (λ x. ty_var (π x)))) (up_by_variables (size_of g) ρ) ∙ (λ i. letrec (filled_retyped_group o g (lift_by (size_of g) ρ) π i) (filled_retyped o e (lift_by (size_of g) ρ) π i))
  filled_retyped o (con c) ρ π = refl
  filled_retyped o (prim q) ρ π = refl
  filled_retyped o (lit s b) ρ π = refl
  filled_retyped o (vec_lit t es) ρ π = λ i. vec_lit (sym (renamed_is t π) i) (filled_retyped_all o es ρ π i)
  filled_retyped o (case_of e alts) ρ π = λ i. case_of (filled_retyped o e ρ π i) (filled_retyped_alts o alts ρ π i)

  filled_retyped_all : (o : ℕ → TermTree) (es : Terms) (ρ π : Renaming) → filled_all o (λ t. t) es (variables_by ρ) (λ x. ty_var (π x)) ≡ with_origins_all o (rename_types_all (rename_all es ρ) π)
  filled_retyped_all o no_terms ρ π = refl
  filled_retyped_all o (term_and e es) ρ π = λ i. term_and (filled_retyped o e ρ π i) (filled_retyped_all o es ρ π i)

  pub filled_retyped_group : (o : ℕ → TermTree) (g : Group) (ρ π : Renaming) → filled_group o (λ t. t) g (variables_by ρ) (λ x. ty_var (π x)) ≡ with_origins_group o (rename_types_group (rename_group g ρ) π)
  filled_retyped_group o no_bindings ρ π = refl
  filled_retyped_group o (bind t e g) ρ π = λ i. bind (sym (renamed_is t π) i) (filled_retyped o e ρ π i) (filled_retyped_group o g ρ π i)

  filled_retyped_alts : (o : ℕ → TermTree) (alts : Alts) (ρ π : Renaming) → filled_alts o (λ t. t) alts (variables_by ρ) (λ x. ty_var (π x)) ≡ with_origins_alts o (rename_types_alts (rename_alts alts ρ) π)
  filled_retyped_alts o no_alts ρ π = refl
  filled_retyped_alts o (alt q e more) ρ π = ap (λ σ. alt q (filled o (λ t. t) e σ (λ x. ty_var (π x))) (filled_alts o (λ t. t) more (variables_by ρ) (λ x. ty_var (π x)))) (up_by_variables (binders q) ρ) ∙ (λ i. alt q (filled_retyped o e (lift_by (binders q) ρ) π i) (filled_retyped_alts o more ρ π i))

-- no type variable moved
pub filled_renamed : (o : ℕ → TermTree) (e : TermTree) (ρ : Renaming) → filled o (λ t. t) e (variables_by ρ) ty_var ≡ with_origins o (rename e ρ)
filled_renamed o e ρ = filled_retyped o e ρ (λ x. x) ∙ ap (with_origins o) (types_ids (rename e ρ))

pub filled_renamed_alts : (o : ℕ → TermTree) (alts : Alts) (ρ : Renaming) → filled_alts o (λ t. t) alts (variables_by ρ) ty_var ≡ with_origins_alts o (rename_alts alts ρ)
filled_renamed_alts o alts ρ = filled_retyped_alts o alts ρ (λ x. x) ∙ ap (with_origins_alts o) (types_ids_alts (rename_alts alts ρ))

mutual
  unfolding filled rename rename_types sub_types evaluated_in with_origins

  -- types put, and closed naturals evaluated
  pub filled_evaluated : (o : ℕ → TermTree) (e : TermTree) (ρ : Renaming) (τ : TypeSubstitution) → filled o evaluated e (variables_by ρ) τ ≡ with_origins o (evaluated_in (sub_types (rename e ρ) τ))
  filled_evaluated o (var x) ρ τ = refl
  filled_evaluated o (global d) ρ τ = refl
  filled_evaluated o (made m) ρ τ = refl
  filled_evaluated o (lam t e) ρ τ = ap (λ σ. lam (evaluated (sub_type t τ)) (filled o evaluated e σ τ)) (up_variables ρ) ∙ ap (lam (evaluated (sub_type t τ))) (filled_evaluated o e (lift ρ) τ)
  filled_evaluated o (app a e) ρ τ = λ i. app (filled_evaluated o a ρ τ i) (filled_evaluated o e ρ τ i)
  filled_evaluated o (ty_lam k e) ρ τ = ap (ty_lam k) (filled_evaluated o e ρ (up_type τ))
  filled_evaluated o (ty_app e t) ρ τ = λ i. ty_app (filled_evaluated o e ρ τ i) (evaluated (sub_type t τ))
  filled_evaluated o (letrec g e) ρ τ = ap (λ σ. letrec (filled_group o evaluated g σ τ) (filled o evaluated e σ τ)) (up_by_variables (size_of g) ρ) ∙ (λ i. letrec (filled_evaluated_group o g (lift_by (size_of g) ρ) τ i) (filled_evaluated o e (lift_by (size_of g) ρ) τ i))
  filled_evaluated o (con c) ρ τ = refl
  filled_evaluated o (prim q) ρ τ = refl
  filled_evaluated o (lit s b) ρ τ = refl
  filled_evaluated o (vec_lit t es) ρ τ = λ i. vec_lit (evaluated (sub_type t τ)) (filled_evaluated_all o es ρ τ i)
  filled_evaluated o (case_of e alts) ρ τ = λ i. case_of (filled_evaluated o e ρ τ i) (filled_evaluated_alts o alts ρ τ i)

  filled_evaluated_all : (o : ℕ → TermTree) (es : Terms) (ρ : Renaming) (τ : TypeSubstitution) → filled_all o evaluated es (variables_by ρ) τ ≡ with_origins_all o (evaluated_in_all (sub_types_all (rename_all es ρ) τ))
  filled_evaluated_all o no_terms ρ τ = refl
  filled_evaluated_all o (term_and e es) ρ τ = λ i. term_and (filled_evaluated o e ρ τ i) (filled_evaluated_all o es ρ τ i)

  filled_evaluated_group : (o : ℕ → TermTree) (g : Group) (ρ : Renaming) (τ : TypeSubstitution) → filled_group o evaluated g (variables_by ρ) τ ≡ with_origins_group o (evaluated_in_group (sub_types_group (rename_group g ρ) τ))
  filled_evaluated_group o no_bindings ρ τ = refl
  filled_evaluated_group o (bind t e g) ρ τ = λ i. bind (evaluated (sub_type t τ)) (filled_evaluated o e ρ τ i) (filled_evaluated_group o g ρ τ i)

  filled_evaluated_alts : (o : ℕ → TermTree) (alts : Alts) (ρ : Renaming) (τ : TypeSubstitution) → filled_alts o evaluated alts (variables_by ρ) τ ≡ with_origins_alts o (evaluated_in_alts (sub_types_alts (rename_alts alts ρ) τ))
  filled_evaluated_alts o no_alts ρ τ = refl
  filled_evaluated_alts o (alt q e more) ρ τ = ap (λ σ. alt q (filled o evaluated e σ τ) (filled_alts o evaluated more (variables_by ρ) τ)) (up_by_variables (binders q) ρ) ∙ (λ i. alt q (filled_evaluated o e (lift_by (binders q) ρ) τ i) (filled_evaluated_alts o more ρ τ i))

pub size_filled : (o : ℕ → TermTree) (f : TypeTree → TypeTree) (g : Group) (σ : Substitution) (τ : TypeSubstitution) → size_of (filled_group o f g σ τ) ≡ length (declared g)
unfolding filled
size_filled o f no_bindings σ τ = refl
size_filled o f (bind t e g) σ τ = ap suc (size_filled o f g σ τ)

pub size_declared : (g : Group) → size_of g ≡ length (declared g)
size_declared no_bindings = refl
size_declared (bind t e g) = ap suc (size_declared g)

-- a function of types that changes no natural's value
abbrev pub KeepsValues : (TypeTree → TypeTree) → Type 0
KeepsValues f = (t : TypeTree) (σ : TypeSubstitution) → evaluated (sub_type (f t) σ) ≡ evaluated (sub_type t σ)

pub itself_keeps : KeepsValues (λ t. t)
itself_keeps t σ = refl

pub evaluated_keeps : KeepsValues evaluated
evaluated_keeps = evaluated_put

-- in this environment the types that are put for the variables are those of the other
abbrev pub Carries : List Kind → TypeSubstitution → TypeTrees → TypeTrees → Type 0
Carries kinds τ δ δ0 = (x : ℕ) (k : Kind) → slice_get kinds x ≡ Some k → evaluated (closed_type (τ x) δ) ≡ type_at δ0 x

pub carries_type : (kinds : List Kind) (τ : TypeSubstitution) (δ δ0 : TypeTrees) (j : Kind) (c : TypeTree) → evaluated c ≡ c → Carries kinds τ δ δ0 → Carries (j ∷ kinds) (up_type τ) (type_and c δ) (type_and c δ0)
unfolding up_type sub_type
carries_type kinds τ δ δ0 j c e h zero k i = e
carries_type kinds τ δ δ0 j c e h (suc x) k i = ap evaluated (rename_sub (τ x) suc (type_at (type_and c δ))) ∙ h x k i

-- a type argument is one closed type there and here
pub type_filled : (p : Program) {kinds : List Kind} (τ : TypeSubstitution) (δ δ0 : TypeTrees) (f : TypeTree → TypeTree) {a : TypeTree} {j : Kind} → KeepsValues f → HasKind (setting_of p) kinds a j → Carries kinds τ δ δ0 → evaluated (closed_type (f (sub_type a τ)) δ) ≡ evaluated (closed_type a δ0)
type_filled p τ δ δ0 f {a = a} keeps d h =
    keeps (sub_type a τ) (type_at δ)
    ∙ ap evaluated (sub_sub a τ (type_at δ))
    ∙ sym (put_evaluated a (λ x. sub_type (τ x) (type_at δ)))
    ∙ ap evaluated (put_agreeing d (λ x. evaluated (sub_type (τ x) (type_at δ))) (type_at δ0) h)
