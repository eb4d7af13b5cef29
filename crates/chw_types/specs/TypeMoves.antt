-- Renaming the variables of a type, and putting types for them.
use Rattle.std.specs.Prelude.{ℕ, suc, zero, ◌+◌}
use Rattle.chw_types.specs.TypeTree.{TypeTree, ty_var, nat_lit, nat_sum, nat_product, domain, scalar, vector, data_of, fun, signal, for_all, TypeTrees, no_types, type_and}

-- where each variable goes
abbrev pub Renaming : Type 0
Renaming = ℕ → ℕ

-- the same under a binder
abbrev pub lift : Renaming → Renaming
lift ρ zero = zero
lift ρ (suc x) = suc (ρ x)

-- the same under n binders
abbrev pub lift_by : ℕ → Renaming → Renaming
lift_by zero ρ = ρ
lift_by (suc n) ρ = lift (lift_by n ρ)

unfoldable mutual
  pub rename : TypeTree → Renaming → TypeTree
  rename (ty_var x) ρ = ty_var (ρ x)
  rename (nat_lit n) ρ = nat_lit n
  rename (nat_sum a b) ρ = nat_sum (rename a ρ) (rename b ρ)
  rename (nat_product a b) ρ = nat_product (rename a ρ) (rename b ρ)
  rename (domain d) ρ = domain d
  rename (scalar s w) ρ = scalar s (rename w ρ)
  rename (vector n t) ρ = vector (rename n ρ) (rename t ρ)
  rename (data_of d ts) ρ = data_of d (rename_all ts ρ)
  rename (fun a b) ρ = fun (rename a ρ) (rename b ρ)
  rename (signal d t) ρ = signal (rename d ρ) (rename t ρ)
  rename (for_all k t) ρ = for_all k (rename t (lift ρ))

  pub rename_all : TypeTrees → Renaming → TypeTrees
  rename_all no_types ρ = no_types
  rename_all (type_and t ts) ρ = type_and (rename t ρ) (rename_all ts ρ)

-- what is put for each variable
abbrev pub Substitution : Type 0
Substitution = ℕ → TypeTree

-- the same under a binder
unfoldable pub up : Substitution → Substitution
up σ zero = ty_var zero
up σ (suc x) = rename (σ x) suc

-- the same under n binders
unfoldable pub up_by : ℕ → Substitution → Substitution
up_by zero σ = σ
up_by (suc n) σ = up (up_by n σ)

unfoldable mutual
  pub sub : TypeTree → Substitution → TypeTree
  sub (ty_var x) σ = σ x
  sub (nat_lit n) σ = nat_lit n
  sub (nat_sum a b) σ = nat_sum (sub a σ) (sub b σ)
  sub (nat_product a b) σ = nat_product (sub a σ) (sub b σ)
  sub (domain d) σ = domain d
  sub (scalar s w) σ = scalar s (sub w σ)
  sub (vector n t) σ = vector (sub n σ) (sub t σ)
  sub (data_of d ts) σ = data_of d (sub_all ts σ)
  sub (fun a b) σ = fun (sub a σ) (sub b σ)
  sub (signal d t) σ = signal (sub d σ) (sub t σ)
  sub (for_all k t) σ = for_all k (sub t (up σ))

  pub sub_all : TypeTrees → Substitution → TypeTrees
  sub_all no_types σ = no_types
  sub_all (type_and t ts) σ = type_and (sub t σ) (sub_all ts σ)

-- by more for the variables at or above c
abbrev pub raised : ℕ → ℕ → Renaming
raised zero by = λ x. x + by
raised (suc c) by = lift (raised c by)

-- the free variables at or above c raised
abbrev pub shift : TypeTree → ℕ → ℕ → TypeTree
shift t c by = rename t (raised c by)

-- a for the variable 0, and later ones come down by one
abbrev pub one : TypeTree → Substitution
one a zero = a
one a (suc x) = ty_var x

unfoldable pub put_at : ℕ → TypeTree → Substitution
put_at c a = up_by c (one a)

-- a, which stands outside of the c innermost binders, put for the variable c
abbrev pub put : TypeTree → ℕ → TypeTree → TypeTree
put t c a = sub t (put_at c a)
