-- The constructors of a program.
use Rattle.std.specs.Prelude.{ℕ, suc, zero, ◌+◌, List, [], ◌∷◌, Option, length, slice_get}
use Rattle.chw_types.specs.declared.declarations.ConDecl.{ConDecl}
use Rattle.chw_types.specs.declared.declarations.Data.{Data}

-- a constructor: the number of its data type, that data type, and its own declaration
pub record Constructor : Type 0 where
  pub of : ℕ
  pub it : Data
  pub decl : ConDecl

-- these constructors of a data type, before others
abbrev pub cons_of : ℕ → Data → List ConDecl → List Constructor → List Constructor
cons_of d it [] others = others
cons_of d it (k ∷ ks) others = record { of = d; it = it; decl = k } ∷ cons_of d it ks others

-- the constructors of these data types in order of declaration; the first data type has this number
abbrev pub constructors_from : ℕ → List Data → List Constructor
constructors_from d [] = []
constructors_from d (it ∷ more) = cons_of d it it.cons (constructors_from (suc d) more)

-- the constructor of this number; the built-in ones stand first, so that False and True are 0 and 1, Nothing and Just 2 and 3, Pair 4
abbrev pub con_at : List Data → ℕ → Option Constructor
con_at datas c = slice_get (constructors_from zero datas) c

-- the number of the first constructor of a data type
abbrev pub first_con : List Data → ℕ → ℕ
first_con [] d = zero
first_con (it ∷ more) zero = zero
first_con (it ∷ more) (suc d) = length it.cons + first_con more d
