-- Lines and the events for which they stand.
use Rattle.std.specs.Prelude.{◌≡◌, ℕ, ◌+◌, ◌<◌, ◌≤◌, List, [], ◌∷◌, ◌++◌, length}
use Rattle.chw_base.specs.declared.limits.TheConstants.{EVENTS, STIMULUS_BYTES}
use Rattle.chw_clock.specs.declared.event.Event.{Event}
use Rattle.chw_clock.specs.declared.event.Ports.{Ports}
use Rattle.stimulus.specs.Stimulus.{IsRight, Stim, count_of, events_of}
use Rattle.stimulus.specs.Texts.{lines_of}

-- the text is a stimulus that has an event of this number, counted from 0
pub record HasEvent (ports : Ports) (text : List ℕ) (place : ℕ) : Type 0 where
  pub events : List Event
  pub read : Stim text ports events
  pub within : place < length events

-- the line of this number, counted from 1, stands for it
pub record IsLineOf (ports : Ports) (text : List ℕ) (place number : ℕ) : Type 0 where
  pub earlier : List (List ℕ)
  pub line : List ℕ
  pub later : List (List ℕ)
  pub lines : lines_of text ≡ earlier ++ line ∷ later
  pub number_is : number ≡ length earlier + 1
  pub from : length (events_of ports earlier) ≤ place
  pub to : place < length (events_of ports earlier) + count_of line

-- the line is a stimulus by itself
pub record IsOneLine (ports : Ports) (line : List ℕ) : Type 0 where
  pub right : IsRight ports line
  pub alone : lines_of line ≡ line ∷ []
  pub short : length line ≤ STIMULUS_BYTES
  pub few : count_of line ≤ EVENTS
