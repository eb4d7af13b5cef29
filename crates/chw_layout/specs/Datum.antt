-- Values as plain trees.
use Rattle.std.specs.Prelude.{ℕ, Bool, List}

mutual
  -- a scalar's bits, the most significant first; a constructor, counted over all data types of the program, with its fields; a vector's
  -- elements, element 0 first
  pub data Datum : Type 0 where
    word : List Bool → Datum
    built : ℕ → Datums → Datum
    elements : Datums → Datum

  -- values in order
  pub data Datums : Type 0 where
    no_data : Datums
    datum_and : Datum → Datums → Datums
