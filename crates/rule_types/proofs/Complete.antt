-- A term stays complete where variables are renamed, terms and types are put, and naturals are evaluated.
use Rattle.std.proofs.Common.{◌∷◌, ◌≡◌, List, [], ap, refl, subst, suc, sym, zero, ℕ}
use Rattle.chw_types.specs.TypeMoves.{Renaming, Substitution as TypeSubstitution, lift, lift_by, up as up_type}
use Rattle.chw_types.specs.TypeTree.{ty_var}
use Rattle.chw_types.specs.declared.declarations.Data.{Data}
use Rattle.chw_terms.proofs.TypesPut.{types_is_sub}
use Rattle.chw_terms.specs.Evaluated.{evaluated_in, evaluated_in_all, evaluated_in_alts, evaluated_in_group}
use Rattle.chw_terms.specs.TermMoves.{Substitution, rename, rename_all, rename_alts, rename_group, sub, sub_all, sub_alts, sub_group, under_type, up, up_by}
use Rattle.chw_terms.specs.TermTree.{Alts, Group, TermTree, Terms, alt, app, bind, binders, case_of, con, global, lam, letrec, lit, made, no_alts, no_bindings, no_terms, prim, size_of, term_and, ty_app, ty_lam, var, vec_lit}
use Rattle.chw_terms.specs.TermView.{applied}
use Rattle.chw_terms.specs.TypesMoved.{sub_types, sub_types_all, sub_types_alts, sub_types_group}
use Rattle.chw_terms.specs.declared.term.Arg.{Arg}
use Rattle.chw_terms.specs.declared.term.Arg.TheVariants.{OfTerm, OfType}
use Rattle.chw_typing.specs.Programs.{AllAreComplete, AltsAreComplete, GroupIsComplete, IsComplete}
use Rattle.chw_typing.proofs.GroupParts.{covered_by, patterns_of_each, patterns_put, patterns_renamed}
use Rattle.chw_typing.specs.Groups.{each_body, joined, patterns}
use Rattle.rewriting.specs.Shapes.{or_body}

abbrev pub EachComplete : List Data → Substitution → Type 0
EachComplete datas σ = (x : ℕ) → IsComplete datas (σ x)

mutual
  unfolding rename

  pub renamed_complete : (datas : List Data) (e : TermTree) (ρ : Renaming) → IsComplete datas e → IsComplete datas (rename e ρ)
  renamed_complete datas (var x) ρ h = tt
  renamed_complete datas (global d) ρ h = tt
  renamed_complete datas (made m) ρ h = tt
  renamed_complete datas (lam t e) ρ h = renamed_complete datas e (lift ρ) h
  renamed_complete datas (app f a) ρ h = (renamed_complete datas f ρ h.0, renamed_complete datas a ρ h.1)
  renamed_complete datas (ty_lam k e) ρ h = renamed_complete datas e ρ h
  renamed_complete datas (ty_app f t) ρ h = renamed_complete datas f ρ h
  renamed_complete datas (letrec g e) ρ h =
      let under = lift_by (size_of g) ρ in
      (renamed_group_complete datas g under h.0, renamed_complete datas e under h.1)
  renamed_complete datas (con c) ρ h = tt
  renamed_complete datas (prim p) ρ h = tt
  renamed_complete datas (lit s b) ρ h = tt
  renamed_complete datas (vec_lit t es) ρ h = renamed_all_complete datas es ρ h
  renamed_complete datas (case_of e alts) ρ h =
      (covered_by datas alts (rename_alts alts ρ) (sym (patterns_renamed alts ρ)) h.0, renamed_complete datas e ρ h.1, renamed_alts_complete datas alts ρ h.2)

  renamed_all_complete : (datas : List Data) (es : Terms) (ρ : Renaming) → AllAreComplete datas es → AllAreComplete datas (rename_all es ρ)
  renamed_all_complete datas no_terms ρ h = tt
  renamed_all_complete datas (term_and e es) ρ h = (renamed_complete datas e ρ h.0, renamed_all_complete datas es ρ h.1)

  pub renamed_group_complete : (datas : List Data) (g : Group) (ρ : Renaming) → GroupIsComplete datas g → GroupIsComplete datas (rename_group g ρ)
  renamed_group_complete datas no_bindings ρ h = tt
  renamed_group_complete datas (bind t e g) ρ h = (renamed_complete datas e ρ h.0, renamed_group_complete datas g ρ h.1)

  pub renamed_alts_complete : (datas : List Data) (alts : Alts) (ρ : Renaming) → AltsAreComplete datas alts → AltsAreComplete datas (rename_alts alts ρ)
  renamed_alts_complete datas no_alts ρ h = tt
  renamed_alts_complete datas (alt q e more) ρ h = (renamed_complete datas e (lift_by (binders q) ρ) h.0, renamed_alts_complete datas more ρ h.1)

patterns_typed : (alts : Alts) (τ : TypeSubstitution) → patterns (sub_types_alts alts τ) ≡ patterns alts
unfolding sub_types_alts
patterns_typed no_alts τ = refl
patterns_typed (alt q e more) τ = ap (λ qs. q ∷ qs) (patterns_typed more τ)

mutual
  unfolding sub_types

  pub typed_complete : (datas : List Data) (e : TermTree) (τ : TypeSubstitution) → IsComplete datas e → IsComplete datas (sub_types e τ)
  typed_complete datas (var x) τ h = tt
  typed_complete datas (global d) τ h = tt
  typed_complete datas (made m) τ h = tt
  typed_complete datas (lam t e) τ h = typed_complete datas e τ h
  typed_complete datas (app f a) τ h = (typed_complete datas f τ h.0, typed_complete datas a τ h.1)
  typed_complete datas (ty_lam k e) τ h = typed_complete datas e (up_type τ) h
  typed_complete datas (ty_app f t) τ h = typed_complete datas f τ h
  typed_complete datas (letrec g e) τ h = (typed_group_complete datas g τ h.0, typed_complete datas e τ h.1)
  typed_complete datas (con c) τ h = tt
  typed_complete datas (prim p) τ h = tt
  typed_complete datas (lit s b) τ h = tt
  typed_complete datas (vec_lit t es) τ h = typed_all_complete datas es τ h
  typed_complete datas (case_of e alts) τ h =
      (covered_by datas alts (sub_types_alts alts τ) (sym (patterns_typed alts τ)) h.0, typed_complete datas e τ h.1, typed_alts_complete datas alts τ h.2)

  typed_all_complete : (datas : List Data) (es : Terms) (τ : TypeSubstitution) → AllAreComplete datas es → AllAreComplete datas (sub_types_all es τ)
  typed_all_complete datas no_terms τ h = tt
  typed_all_complete datas (term_and e es) τ h = (typed_complete datas e τ h.0, typed_all_complete datas es τ h.1)

  typed_group_complete : (datas : List Data) (g : Group) (τ : TypeSubstitution) → GroupIsComplete datas g → GroupIsComplete datas (sub_types_group g τ)
  typed_group_complete datas no_bindings τ h = tt
  typed_group_complete datas (bind t e g) τ h = (typed_complete datas e τ h.0, typed_group_complete datas g τ h.1)

  typed_alts_complete : (datas : List Data) (alts : Alts) (τ : TypeSubstitution) → AltsAreComplete datas alts → AltsAreComplete datas (sub_types_alts alts τ)
  typed_alts_complete datas no_alts τ h = tt
  typed_alts_complete datas (alt q e more) τ h = (typed_complete datas e τ h.0, typed_alts_complete datas more τ h.1)

up_complete : (datas : List Data) (σ : Substitution) → EachComplete datas σ → EachComplete datas (up σ)
unfolding up
up_complete datas σ h zero = tt
up_complete datas σ h (suc x) = renamed_complete datas (σ x) suc (h x)

up_by_complete : (datas : List Data) (n : ℕ) (σ : Substitution) → EachComplete datas σ → EachComplete datas (up_by n σ)
unfolding up_by
up_by_complete datas zero σ h = h
up_by_complete datas (suc n) σ h = up_complete datas (up_by n σ) (up_by_complete datas n σ h)

under_type_complete : (datas : List Data) (σ : Substitution) → EachComplete datas σ → EachComplete datas (under_type σ)
under_type_complete datas σ h x =
    subst (IsComplete datas) (sym (types_is_sub (σ x) suc)) (typed_complete datas (σ x) (λ y. ty_var (suc y)) (h x))

mutual
  unfolding sub

  pub put_complete : (datas : List Data) (e : TermTree) (σ : Substitution) → EachComplete datas σ → IsComplete datas e → IsComplete datas (sub e σ)
  put_complete datas (var x) σ f h = f x
  put_complete datas (global d) σ f h = tt
  put_complete datas (made m) σ f h = tt
  put_complete datas (lam t e) σ f h = put_complete datas e (up σ) (up_complete datas σ f) h
  put_complete datas (app g a) σ f h = (put_complete datas g σ f h.0, put_complete datas a σ f h.1)
  put_complete datas (ty_lam k e) σ f h = put_complete datas e (under_type σ) (under_type_complete datas σ f) h
  put_complete datas (ty_app g t) σ f h = put_complete datas g σ f h
  put_complete datas (letrec g e) σ f h =
      let under = up_by (size_of g) σ in
      let each = up_by_complete datas (size_of g) σ f in
      (put_group_complete datas g under each h.0, put_complete datas e under each h.1)
  put_complete datas (con c) σ f h = tt
  put_complete datas (prim p) σ f h = tt
  put_complete datas (lit s b) σ f h = tt
  put_complete datas (vec_lit t es) σ f h = put_all_complete datas es σ f h
  put_complete datas (case_of e alts) σ f h =
      (covered_by datas alts (sub_alts alts σ) (sym (patterns_put alts σ)) h.0, put_complete datas e σ f h.1, put_alts_complete datas alts σ f h.2)

  put_all_complete : (datas : List Data) (es : Terms) (σ : Substitution) → EachComplete datas σ → AllAreComplete datas es → AllAreComplete datas (sub_all es σ)
  put_all_complete datas no_terms σ f h = tt
  put_all_complete datas (term_and e es) σ f h = (put_complete datas e σ f h.0, put_all_complete datas es σ f h.1)

  pub put_group_complete : (datas : List Data) (g : Group) (σ : Substitution) → EachComplete datas σ → GroupIsComplete datas g → GroupIsComplete datas (sub_group g σ)
  put_group_complete datas no_bindings σ f h = tt
  put_group_complete datas (bind t e g) σ f h = (put_complete datas e σ f h.0, put_group_complete datas g σ f h.1)

  put_alts_complete : (datas : List Data) (alts : Alts) (σ : Substitution) → EachComplete datas σ → AltsAreComplete datas alts → AltsAreComplete datas (sub_alts alts σ)
  put_alts_complete datas no_alts σ f h = tt
  put_alts_complete datas (alt q e more) σ f h = (put_complete datas e (up_by (binders q) σ) (up_by_complete datas (binders q) σ f) h.0, put_alts_complete datas more σ f h.1)

patterns_evaluated : (alts : Alts) → patterns (evaluated_in_alts alts) ≡ patterns alts
unfolding evaluated_in_alts
patterns_evaluated no_alts = refl
patterns_evaluated (alt q e more) = ap (λ qs. q ∷ qs) (patterns_evaluated more)

mutual
  unfolding evaluated_in

  pub evaluated_complete : (datas : List Data) (e : TermTree) → IsComplete datas e → IsComplete datas (evaluated_in e)
  evaluated_complete datas (var x) h = tt
  evaluated_complete datas (global d) h = tt
  evaluated_complete datas (made m) h = tt
  evaluated_complete datas (lam t e) h = evaluated_complete datas e h
  evaluated_complete datas (app f a) h = (evaluated_complete datas f h.0, evaluated_complete datas a h.1)
  evaluated_complete datas (ty_lam k e) h = evaluated_complete datas e h
  evaluated_complete datas (ty_app f t) h = evaluated_complete datas f h
  evaluated_complete datas (letrec g e) h = (evaluated_group_complete datas g h.0, evaluated_complete datas e h.1)
  evaluated_complete datas (con c) h = tt
  evaluated_complete datas (prim p) h = tt
  evaluated_complete datas (lit s b) h = tt
  evaluated_complete datas (vec_lit t es) h = evaluated_all_complete datas es h
  evaluated_complete datas (case_of e alts) h =
      (covered_by datas alts (evaluated_in_alts alts) (sym (patterns_evaluated alts)) h.0, evaluated_complete datas e h.1, evaluated_alts_complete datas alts h.2)

  evaluated_all_complete : (datas : List Data) (es : Terms) → AllAreComplete datas es → AllAreComplete datas (evaluated_in_all es)
  evaluated_all_complete datas no_terms h = tt
  evaluated_all_complete datas (term_and e es) h = (evaluated_complete datas e h.0, evaluated_all_complete datas es h.1)

  evaluated_group_complete : (datas : List Data) (g : Group) → GroupIsComplete datas g → GroupIsComplete datas (evaluated_in_group g)
  evaluated_group_complete datas no_bindings h = tt
  evaluated_group_complete datas (bind t e g) h = (evaluated_complete datas e h.0, evaluated_group_complete datas g h.1)

  evaluated_alts_complete : (datas : List Data) (alts : Alts) → AltsAreComplete datas alts → AltsAreComplete datas (evaluated_in_alts alts)
  evaluated_alts_complete datas no_alts h = tt
  evaluated_alts_complete datas (alt q e more) h = (evaluated_complete datas e h.0, evaluated_alts_complete datas more h.1)

-- a case of which each body changes
each_alts_complete : (datas : List Data) (F : ℕ → TermTree → TermTree) (alts : Alts) → ((n : ℕ) (e : TermTree) → IsComplete datas e → IsComplete datas (F n e)) → AltsAreComplete datas alts → AltsAreComplete datas (each_body F alts)
each_alts_complete datas F no_alts f h = tt
each_alts_complete datas F (alt q e more) f h = (f (binders q) e h.0, each_alts_complete datas F more f h.1)

pub each_complete : (datas : List Data) (F : ℕ → TermTree → TermTree) (e : TermTree) (alts : Alts) → ((n : ℕ) (e : TermTree) → IsComplete datas e → IsComplete datas (F n e)) → IsComplete datas (case_of e alts) → IsComplete datas (case_of e (each_body F alts))
each_complete datas F e alts f h =
    (covered_by datas alts (each_body F alts) (sym (patterns_of_each F alts)) h.0, h.1, each_alts_complete datas F alts f h.2)

-- what stands before and behind in two groups as one
pub joined_complete : (datas : List Data) (g h : Group) → GroupIsComplete datas g → GroupIsComplete datas h → GroupIsComplete datas (joined g h)
joined_complete datas no_bindings h a b = b
joined_complete datas (bind t e g) h a b = (a.0, joined_complete datas g h a.1 b)

pub first_complete : (datas : List Data) (g h : Group) → GroupIsComplete datas (joined g h) → GroupIsComplete datas g
first_complete datas no_bindings h a = tt
first_complete datas (bind t e g) h a = (a.0, first_complete datas g h a.1)

pub second_complete : (datas : List Data) (g h : Group) → GroupIsComplete datas (joined g h) → GroupIsComplete datas h
second_complete datas no_bindings h a = a
second_complete datas (bind t e g) h a = second_complete datas g h a.1

pub or_body_complete : (datas : List Data) (g : Group) (e : TermTree) → GroupIsComplete datas g → IsComplete datas e → IsComplete datas (or_body g e)
or_body_complete datas no_bindings e a b = b
or_body_complete datas (bind t r g) e a b = (a, b)

-- the terms among these arguments are complete
abbrev pub ArgComplete : List Data → Arg → Type 0
ArgComplete datas (OfTerm e) = IsComplete datas e
ArgComplete datas (OfType t) = Unit {0}

abbrev pub ArgsComplete : List Data → List Arg → Type 0
ArgsComplete datas [] = Unit {0}
ArgsComplete datas (a ∷ args) = ArgComplete datas a × ArgsComplete datas args

pub applied_complete : (datas : List Data) (e : TermTree) (args : List Arg) → IsComplete datas e → ArgsComplete datas args → IsComplete datas (applied e args)
applied_complete datas e [] h f = h
applied_complete datas e (OfTerm a ∷ args) h f = applied_complete datas (app e a) args (h, f.0) f.1
applied_complete datas e (OfType t ∷ args) h f = applied_complete datas (ty_app e t) args h f.1

pub spine_complete : (datas : List Data) (e : TermTree) (args : List Arg) → IsComplete datas (applied e args) → IsComplete datas e × ArgsComplete datas args
spine_complete datas e [] h = (h, tt)
spine_complete datas e (OfTerm a ∷ args) h =
    let rest = spine_complete datas (app e a) args h in
    (rest.0.0, (rest.0.1, rest.1))
spine_complete datas e (OfType t ∷ args) h =
    let rest = spine_complete datas (ty_app e t) args h in
    (rest.0, (tt, rest.1))

-- a spine with another head
pub core_complete : (datas : List Data) (e f : TermTree) (args : List Arg) → (IsComplete datas e → IsComplete datas f) → IsComplete datas (applied e args) → IsComplete datas (applied f args)
core_complete datas e f args g h =
    let parts = spine_complete datas e args h in
    applied_complete datas f args (g parts.0) parts.1
