-- Renaming the type variables of a term, and putting types for them.
use Rattle.std.specs.Prelude.{ℕ}
use Rattle.chw_types.specs.TypeTree.{TypeTree}
use Rattle.chw_types.specs.TypeMoves.{Renaming, lift, raised, rename as rename_type, Substitution as TypeSubstitution, up as up_type, sub as sub_type, put_at as type_put_at}
use Rattle.chw_terms.specs.TermTree.{TermTree, var, global, made, lam, app, ty_lam, ty_app, letrec, con, prim, lit, vec_lit, case_of, Terms, no_terms, term_and, Group, no_bindings, bind, Alts, no_alts, alt}

unfoldable mutual
  pub rename_types : TermTree → Renaming → TermTree
  rename_types (var x) ρ = var x
  rename_types (global d) ρ = global d
  rename_types (made m) ρ = made m
  rename_types (lam t e) ρ = lam (rename_type t ρ) (rename_types e ρ)
  rename_types (app f a) ρ = app (rename_types f ρ) (rename_types a ρ)
  rename_types (ty_lam k e) ρ = ty_lam k (rename_types e (lift ρ))
  rename_types (ty_app f t) ρ = ty_app (rename_types f ρ) (rename_type t ρ)
  rename_types (letrec g e) ρ = letrec (rename_types_group g ρ) (rename_types e ρ)
  rename_types (con c) ρ = con c
  rename_types (prim p) ρ = prim p
  rename_types (lit s bs) ρ = lit s bs
  rename_types (vec_lit t es) ρ = vec_lit (rename_type t ρ) (rename_types_all es ρ)
  rename_types (case_of s alts) ρ = case_of (rename_types s ρ) (rename_types_alts alts ρ)

  pub rename_types_all : Terms → Renaming → Terms
  rename_types_all no_terms ρ = no_terms
  rename_types_all (term_and e es) ρ = term_and (rename_types e ρ) (rename_types_all es ρ)

  pub rename_types_group : Group → Renaming → Group
  rename_types_group no_bindings ρ = no_bindings
  rename_types_group (bind t e g) ρ = bind (rename_type t ρ) (rename_types e ρ) (rename_types_group g ρ)

  pub rename_types_alts : Alts → Renaming → Alts
  rename_types_alts no_alts ρ = no_alts
  rename_types_alts (alt q e more) ρ = alt q (rename_types e ρ) (rename_types_alts more ρ)

unfoldable mutual
  pub sub_types : TermTree → TypeSubstitution → TermTree
  sub_types (var x) σ = var x
  sub_types (global d) σ = global d
  sub_types (made m) σ = made m
  sub_types (lam t e) σ = lam (sub_type t σ) (sub_types e σ)
  sub_types (app f a) σ = app (sub_types f σ) (sub_types a σ)
  sub_types (ty_lam k e) σ = ty_lam k (sub_types e (up_type σ))
  sub_types (ty_app f t) σ = ty_app (sub_types f σ) (sub_type t σ)
  sub_types (letrec g e) σ = letrec (sub_types_group g σ) (sub_types e σ)
  sub_types (con c) σ = con c
  sub_types (prim p) σ = prim p
  sub_types (lit s bs) σ = lit s bs
  sub_types (vec_lit t es) σ = vec_lit (sub_type t σ) (sub_types_all es σ)
  sub_types (case_of s alts) σ = case_of (sub_types s σ) (sub_types_alts alts σ)

  pub sub_types_all : Terms → TypeSubstitution → Terms
  sub_types_all no_terms σ = no_terms
  sub_types_all (term_and e es) σ = term_and (sub_types e σ) (sub_types_all es σ)

  pub sub_types_group : Group → TypeSubstitution → Group
  sub_types_group no_bindings σ = no_bindings
  sub_types_group (bind t e g) σ = bind (sub_type t σ) (sub_types e σ) (sub_types_group g σ)

  pub sub_types_alts : Alts → TypeSubstitution → Alts
  sub_types_alts no_alts σ = no_alts
  sub_types_alts (alt q e more) σ = alt q (sub_types e σ) (sub_types_alts more σ)

-- the free type variables at or above c raised
abbrev pub shift_types : TermTree → ℕ → ℕ → TermTree
shift_types e c by = rename_types e (raised c by)

-- a type, which stands outside of the c innermost type binders, put for the type variable c; later ones come down by one
abbrev pub put_types : TermTree → ℕ → TypeTree → TermTree
put_types e c a = sub_types e (type_put_at c a)
