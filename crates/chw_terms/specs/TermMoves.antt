-- Renaming the variables of a term, and putting terms for them.
use Rattle.std.specs.Prelude.{ℕ, suc, zero, ◌+◌, ◌-◌, ◌==◌, nat_lt, if◌then◌else◌}
use Rattle.chw_types.specs.TypeMoves.{Renaming, lift, lift_by, raised}
use Rattle.chw_terms.specs.TermTree.{TermTree, var, global, made, lam, app, ty_lam, ty_app, letrec, con, prim, lit, vec_lit, case_of, Terms, no_terms, term_and, Group, no_bindings, bind, Alts, no_alts, alt, binders, size_of}
use Rattle.chw_terms.specs.TypesMoved.{rename_types}

unfoldable mutual
  pub rename : TermTree → Renaming → TermTree
  rename (var x) ρ = var (ρ x)
  rename (global d) ρ = global d
  rename (made m) ρ = made m
  rename (lam t e) ρ = lam t (rename e (lift ρ))
  rename (app f a) ρ = app (rename f ρ) (rename a ρ)
  rename (ty_lam k e) ρ = ty_lam k (rename e ρ)
  rename (ty_app f t) ρ = ty_app (rename f ρ) t
  rename (letrec g e) ρ = letrec (rename_group g (lift_by (size_of g) ρ)) (rename e (lift_by (size_of g) ρ))
  rename (con c) ρ = con c
  rename (prim p) ρ = prim p
  rename (lit s bs) ρ = lit s bs
  rename (vec_lit t es) ρ = vec_lit t (rename_all es ρ)
  rename (case_of s alts) ρ = case_of (rename s ρ) (rename_alts alts ρ)

  pub rename_all : Terms → Renaming → Terms
  rename_all no_terms ρ = no_terms
  rename_all (term_and e es) ρ = term_and (rename e ρ) (rename_all es ρ)

  -- each right side; the binders of the group are already passed
  pub rename_group : Group → Renaming → Group
  rename_group no_bindings ρ = no_bindings
  rename_group (bind t e g) ρ = bind t (rename e ρ) (rename_group g ρ)

  pub rename_alts : Alts → Renaming → Alts
  rename_alts no_alts ρ = no_alts
  rename_alts (alt q e more) ρ = alt q (rename e (lift_by (binders q) ρ)) (rename_alts more ρ)

-- what is put for each variable
abbrev pub Substitution : Type 0
Substitution = ℕ → TermTree

-- the same under a binder
unfoldable pub up : Substitution → Substitution
up σ zero = var zero
up σ (suc x) = rename (σ x) suc

-- the same under n binders
unfoldable pub up_by : ℕ → Substitution → Substitution
up_by zero σ = σ
up_by (suc n) σ = up (up_by n σ)

-- the same under a type binder
abbrev pub under_type : Substitution → Substitution
under_type σ = λ x. rename_types (σ x) suc

unfoldable mutual
  pub sub : TermTree → Substitution → TermTree
  sub (var x) σ = σ x
  sub (global d) σ = global d
  sub (made m) σ = made m
  sub (lam t e) σ = lam t (sub e (up σ))
  sub (app f a) σ = app (sub f σ) (sub a σ)
  sub (ty_lam k e) σ = ty_lam k (sub e (under_type σ))
  sub (ty_app f t) σ = ty_app (sub f σ) t
  sub (letrec g e) σ = letrec (sub_group g (up_by (size_of g) σ)) (sub e (up_by (size_of g) σ))
  sub (con c) σ = con c
  sub (prim p) σ = prim p
  sub (lit s bs) σ = lit s bs
  sub (vec_lit t es) σ = vec_lit t (sub_all es σ)
  sub (case_of s alts) σ = case_of (sub s σ) (sub_alts alts σ)

  pub sub_all : Terms → Substitution → Terms
  sub_all no_terms σ = no_terms
  sub_all (term_and e es) σ = term_and (sub e σ) (sub_all es σ)

  pub sub_group : Group → Substitution → Group
  sub_group no_bindings σ = no_bindings
  sub_group (bind t e g) σ = bind t (sub e σ) (sub_group g σ)

  pub sub_alts : Alts → Substitution → Alts
  sub_alts no_alts σ = no_alts
  sub_alts (alt q e more) σ = alt q (sub e (up_by (binders q) σ)) (sub_alts more σ)

-- the free variables at or above c raised
abbrev pub shift : TermTree → ℕ → ℕ → TermTree
shift e c by = rename e (raised c by)

-- a for the variable 0, and later ones come down by one
abbrev pub one : TermTree → Substitution
one a zero = a
one a (suc x) = var x

unfoldable pub put_at : ℕ → TermTree → Substitution
put_at c a = up_by c (one a)

-- a, which stands outside of the c innermost binders, put for the variable c; later variables come down by one
abbrev pub put : TermTree → ℕ → TermTree → TermTree
put e c a = sub e (put_at c a)

-- a for the variable v, in the scope without v; later variables come down by one
abbrev pub in_place_of : ℕ → TermTree → Substitution
in_place_of v a x = if nat_lt x v then var x else (if x == v then a else var (x - 1))

-- without the variable v: later ones come down by one
abbrev pub lowered : ℕ → Renaming
lowered v x = if nat_lt v x then x - 1 else x

-- the first m variables and the next n change places
abbrev pub exchanged : ℕ → ℕ → Renaming
exchanged m n x = if nat_lt x m then x + n else (if nat_lt x (m + n) then x - m else x)
