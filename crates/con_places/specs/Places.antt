-- The places at which constructors stand.
use Rattle.std.specs.Prelude.{◌≡◌, ℕ, zero, suc, ◌+◌, List, [], ◌∷◌, ◌++◌, length, Some, slice_get}
use Rattle.chw_types.specs.declared.declarations.ConDecl.{ConDecl}
use Rattle.chw_types.specs.declared.declarations.Data.{Data}
use Rattle.chw_terms.specs.Constructors.{first_con}
use Rattle.con_places.specs.declared.table.Place.{Place}

-- the constructor of this number stands at this place
pub record StandsAt (datas : List Data) (n : ℕ) (p : Place) : Type 0 where
  pub it : Data
  pub decl : ConDecl
  pub in_datas : slice_get datas p.of ≡ Some it
  pub in_cons : slice_get it.cons p.place ≡ Some decl
  pub number : n ≡ first_con datas p.of + p.place

-- these are the places of the constructors of the first so many data types, by their numbers
pub record AreOfFirst (datas : List Data) (count : ℕ) (places : List Place) : Type 0 where
  pub each : (n : ℕ) (p : Place) → slice_get places n ≡ Some p → StandsAt datas n p
  pub all : length places ≡ first_con datas count

-- the places of so many constructors of one data type
abbrev pub places_of : ℕ → ℕ → List Place
places_of of zero = []
places_of of (suc n) = places_of of n ++ record { of = of; place = n } ∷ []
