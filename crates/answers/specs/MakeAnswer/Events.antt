-- The stimulus of a filter of so many taps: four times as many events, each of which ticks domain A
-- and each of odd number B too, with the number of the event as the input `x` of 16 bits.
use Rattle.std.specs.Prelude.{◌≡◌, ℕ, zero, suc, ◌*◌, ◌%◌, ◌==◌, if◌then◌else◌, Bool}
use Rattle.std.specs.Prelude.{List, [], ◌∷◌, ◌++◌, codes}
use Rattle.chw_base.specs.declared.index.DomId.{DomId}
use Rattle.chw_bits.specs.Bits.{bits_of}
use Rattle.chw_bits.specs.Hex.{hex_digits}
use Rattle.chw_clock.specs.declared.event.Event.{Event}
use Rattle.chw_clock.specs.declared.event.Ports.{Ports}

-- the domains that tick in the event of this number, counted from 0
abbrev pub domains_at : ℕ → List ℕ
domains_at j = if j % 2 == 1 then codes "A B" else codes "A"

-- the bits of the input at this event
unfoldable pub input_at : ℕ → List Bool
input_at j = bits_of 16 j

-- the line of this event
abbrev pub event_line : ℕ → List ℕ
event_line j = domains_at j ++ codes ": x=" ++ hex_digits (input_at j) ++ 10 ∷ []

-- the lines of the events below this number
abbrev pub lines_below : ℕ → List ℕ
lines_below zero = []
lines_below (suc j) = lines_below j ++ event_line j

abbrev pub make_stimulus : ℕ → List ℕ
make_stimulus taps = lines_below (4 * taps)

-- The events that this text stands for.

abbrev pub domain : ℕ → DomId
domain d = record { number = d }

-- the numbers of A and B among the domains are 0 and 1
abbrev pub ticks_at : ℕ → List DomId
ticks_at j = if j % 2 == 1 then domain 0 ∷ domain 1 ∷ [] else domain 0 ∷ []

abbrev pub event_at : ℕ → Event
event_at j = record { ticks = ticks_at j; resets = []; inputs = input_at j ∷ [] }

-- the events below this number
abbrev pub events_below : ℕ → List Event
events_below zero = []
events_below (suc j) = events_below j ++ event_at j ∷ []

abbrev pub make_events : ℕ → List Event
make_events taps = events_below (4 * taps)

-- the ports have the domains A and B, and one input, `x` of 16 bits
pub record HasX (ports : Ports) : Type 0 where
  pub domains : ports.domains ≡ codes "A" ∷ codes "B" ∷ []
  pub domain_of_x : DomId
  pub inputs : ports.inputs ≡ record { name = codes "x"; dom = domain_of_x; width = 16 } ∷ []
