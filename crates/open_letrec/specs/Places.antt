-- Where the bindings of a letrec that is taken apart stand, and what becomes of variables.
use Rattle.std.specs.Prelude.{◌≡◌, ◌≤◌, ◌<◌, ℕ, zero, suc, ◌+◌, ◌-◌, nat_lt, if◌then◌else◌}
use Rattle.std.specs.Prelude.{List, [], ◌∷◌, ◌++◌, length, reverse, Option, Some, None, slice_index}
use Rattle.std.specs.List.{slice_get}
use Rattle.chw_types.specs.TypeMoves.{Renaming}
use Rattle.open_letrec.specs.declared.places.Places.{Places}
use Rattle.open_letrec.specs.declared.places.Stand.{Stand}
use Rattle.open_letrec.specs.declared.places.Stand.TheVariants.{Settled, Waiting}
use Rattle.open_letrec.specs.declared.places.Way.{Way}
use Rattle.open_letrec.specs.declared.places.Way.TheVariants.{Store, Show}
use Rattle.open_letrec.specs.declared.places.TheConstants.{OUTSIDE}

-- the ids of the bindings, the innermost one first
abbrev pub ids_of : Places → List ℕ
ids_of p = p.waiting.items ++ reverse p.settled.items

-- the number by which the variable of an index is stored, where these are the ids
abbrev pub number_in : List ℕ → Renaming
number_in [] x = OUTSIDE + x
number_in (id ∷ ids) zero = id
number_in (id ∷ ids) (suc x) = number_in ids x

abbrev pub number_of : Places → Renaming
number_of p = number_in (ids_of p)

-- the index of the binding that stands there, among so many; without one the number stays
abbrev pub index_at : ℕ → Option Stand → ℕ → ℕ
index_at n (Some (Settled before)) x = n - 1 - before
index_at n (Some (Waiting behind)) x = behind
index_at n None x = x

-- the index of the variable that is stored by a number
abbrev pub index_of : Places → Renaming
index_of p x =
    let n = length (ids_of p) in
    if nat_lt x OUTSIDE then index_at n (slice_get p.stands.items x) x else x - OUTSIDE + n

-- what a walk makes of variables
abbrev pub renaming_of : Places → Way → Renaming
renaming_of p Store = number_of p
renaming_of p Show = index_of p

-- each binding stands where its id says
pub record Agrees (p : Places) : Type 0 where
  pub waiting : (i : ℕ) → i < length p.waiting.items
      → slice_get p.stands.items (slice_index p.waiting.items i) ≡ Some (Waiting i)
  pub settled : (i : ℕ) → i < length p.settled.items
      → slice_get p.stands.items (slice_index p.settled.items i) ≡ Some (Settled i)
  pub few : length p.stands.items ≤ OUTSIDE

-- these ids more, before those that wait
pub record HasMore (p p' : Places) (ids : List ℕ) : Type 0 where
  pub waiting : p'.waiting.items ≡ p.waiting.items ++ ids
  pub settled : p'.settled.items ≡ p.settled.items

-- one more
abbrev pub IsOneMore : Places → Places → Type 0
IsOneMore p p' = (id : ℕ) × HasMore p p' (id ∷ [])

-- so many more
abbrev pub IsGrown : Places → Places → ℕ → Type 0
IsGrown p p' m = (ids : List ℕ) × (length ids ≡ m) × HasMore p p' ids

-- the first of those that wait is settled
pub record IsSettledOne (p p' : Places) : Type 0 where
  pub ids : ids_of p' ≡ ids_of p
  pub settled : length p'.settled.items ≡ suc (length p.settled.items)
  pub waiting : length p.waiting.items ≡ suc (length p'.waiting.items)
