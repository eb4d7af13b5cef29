-- The constructor that a reference to one stands for.
use Rattle.std.specs.Prelude.{◌≡◌, ℕ, ◌+◌, List, Some}
use Rattle.chw_types.specs.declared.declarations.Data.{Data}
use Rattle.chw_terms.specs.Constructors.{Constructor, con_at, first_con}
use Rattle.con_places.specs.declared.table.Constructor.{Constructor as Reference}

abbrev pub constructor_of : Reference → Constructor
constructor_of c = record { of = c.of.number; it = c.it.now; decl = c.decl.now }

-- it is the constructor of this number, which counts those of the data types before its own, and those before it in its own
pub record IsConstructor (datas : List Data) (n : ℕ) (c : Reference) : Type 0 where
  pub is : con_at datas n ≡ Some (constructor_of c)
  pub number : n ≡ first_con datas c.of.number + c.place
