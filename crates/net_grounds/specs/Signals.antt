-- What is promised of the bits of signals.
use Rattle.carrying.specs.SignalLaws.{CrossingShows, PureShows, RegisterShowsFirst}
use Rattle.carrying.specs.SignalLaws.{RegisterShowsLater}

-- facts on the bits of signals
pub record SignalFacts : Type 0 where
  -- a constant signal shows what its value shows
  pub pure_shows : PureShows
  -- a register shows its first value until its domain has ticked
  pub register_first : RegisterShowsFirst
  -- and then what its signal showed at the last tick
  pub register_later : RegisterShowsLater
  -- a signal that is taken into another domain shows what it shows
  pub crossing_shows : CrossingShows
