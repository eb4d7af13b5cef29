-- What is promised of the bits of cases.
use Rattle.std.specs.Prelude.{Bool, List, true, ◌≡◌}
use Rattle.carrying.specs.DataLaws.{CaseCarries, GoesOnShows, TakesShows}
use Rattle.chw_meaning.specs.Eval.{same_bits}

-- facts on the bits of cases
pub record CaseFacts : Type 0 where
  -- a case that goes on with an alternative shows what the alternative shows
  pub goes_on_shows : GoesOnShows
  -- a case that takes its only constructor shows what the alternative shows on its fields
  pub takes_shows : TakesShows
  -- the test of bits finds that they are the same as themselves
  pub same_itself : (b : List Bool) → same_bits b b ≡ true
  -- a case whose scrutinee shows bits carries what the first alternative for them carries
  pub case_carries : CaseCarries
