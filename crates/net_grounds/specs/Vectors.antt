-- What is promised of the bits of vectors.
use Rattle.carrying.specs.VectorLaws.{ElementShows, VAtShows, VGetShows, VectorCarries}

-- facts on the bits of vectors
pub record VectorFacts : Type 0 where
  -- a vector carries the bits of its elements
  pub vector_carries : VectorCarries
  -- an element shows the bits at its place
  pub element_shows : ElementShows
  -- so does `vget` at its number
  pub vget_shows : VGetShows
  -- and `vat` at the number of its index, or at the last place
  pub vat_shows : VAtShows
