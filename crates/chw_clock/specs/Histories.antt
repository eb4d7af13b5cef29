-- Histories of events. A history is a list of events, the present one first, then the past from the latest on.
use Rattle.std.specs.Prelude.{◌≡◌, ℕ, ◌<◌, Bool, false, ◌==◌, IsTrue, List, [], ◌∷◌, length, Option, Some, None, if◌then◌else◌}
use Rattle.std.specs.List.{list_any, AllByRecursion}
use Rattle.chw_base.specs.declared.index.DomId.{DomId}
use Rattle.chw_clock.specs.declared.event.Event.{Event}
use Rattle.chw_clock.specs.declared.event.Port.{Port}
use Rattle.chw_clock.specs.declared.event.Ports.{Ports}

-- the domain is one of these
abbrev pub is_one_of : List DomId → DomId → Bool
is_one_of domains domain = list_any (λ d. d.number == domain.number) domains

-- the domain ticks in the event
abbrev pub ticks : Event → DomId → Bool
ticks event domain = is_one_of event.ticks domain

-- the reset of the domain is asserted in the event
abbrev pub resets : Event → DomId → Bool
resets event domain = is_one_of event.resets domain

-- the domain has a reset
abbrev pub has_reset : Ports → DomId → Bool
has_reset ports domain = is_one_of ports.resets domain

-- the history up to the latest of these events in which the domain ticks
abbrev pub up_to_tick : List Event → DomId → Option (List Event)
up_to_tick [] domain = None
up_to_tick (event ∷ past) domain = if ticks event domain then Some (event ∷ past) else up_to_tick past domain

-- the history cut after the last event, other than the present one, in which the domain ticks; none where there is no such event
abbrev pub before : List Event → DomId → Option (List Event)
before [] domain = None
before (present ∷ past) domain = up_to_tick past domain

-- in the last event of the history the reset of the domain is asserted
abbrev pub is_reset : List Event → DomId → Bool
is_reset [] domain = false
is_reset (present ∷ past) domain = resets present domain

abbrev pub unless_reset : Option (List Event) → DomId → Option (List Event)
unless_reset None domain = None
unless_reset (Some past) domain = if is_reset past domain then None else Some past

-- the history at whose last event a register of the domain took its input: the one before the last tick. None where the register has
-- its initial value, since there is no such tick, or the reset was asserted in it.
abbrev pub taken : List Event → DomId → Option (List Event)
taken h domain = unless_reset (before h domain) domain

-- the bits are of the widths of these ports
abbrev pub HaveWidths : List Port → List (List Bool) → Type 0
HaveWidths [] [] = Unit {0}
HaveWidths (port ∷ ports) (bits ∷ inputs) = (length bits ≡ port.width) × HaveWidths ports inputs
HaveWidths _ _ = ⊥

-- an event of these ports: at least one domain ticks, all that tick are domains of the ports, each whose reset is asserted ticks and
-- has a reset, and each input has its bits
pub record FitsEvent (ports : Ports) (event : Event) : Type 0 where
  pub some_tick : 0 < length event.ticks
  pub known : AllByRecursion (λ d. d.number < length ports.domains) event.ticks
  pub resets : AllByRecursion (λ d. IsTrue (ticks event d) × IsTrue (has_reset ports d)) event.resets
  pub inputs : HaveWidths ports.inputs event.inputs

-- a history of these ports: at least one event, and each is an event of the ports
abbrev pub FitsPorts : Ports → List Event → Type 0
FitsPorts ports [] = ⊥
FitsPorts ports (event ∷ past) = AllByRecursion (FitsEvent ports) (event ∷ past)
