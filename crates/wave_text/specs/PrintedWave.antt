-- The wave that is printed for events.
use Rattle.std.specs.Prelude.{ℕ, ◌+◌, ◌*◌, Bool, true, false, if◌then◌else◌, List, [], ◌∷◌, ◌++◌}
use Rattle.std.specs.Prelude.{drop}
use Rattle.chw_clock.specs.declared.event.Event.{Event}
use Rattle.chw_clock.specs.declared.event.Ports.{Ports}
use Rattle.waves.specs.Vcd.{is_shown, values_at, variables}
use Rattle.wave_text.specs.declared.wave.Change.{Change}
use Rattle.wave_text.specs.declared.wave.Wave.{Wave}
use Rattle.wave_text.specs.declared.wave.WaveStep.{WaveStep}

-- the new values from variable k on, but for those that are as the old ones
abbrev pub changed : ℕ → (old new : List (List Bool)) → List Change
changed k old [] = []
changed k old (bits ∷ new) =
    (if is_shown old bits then [] else record { var = k; value = bits } ∷ [])
    ++ changed (k + 1) (drop 1 old) new

abbrev pub step : ℕ → List Change → WaveStep
step instant changes = record { time = instant; changes = changes }

-- the steps of the event of this number, behind a time at which the variables had these values
abbrev pub event_steps : ℕ → Ports → List (List Bool) → Event → List (List Bool) → List WaveStep
event_steps number ports last event outputs =
    step (2 * number) (changed 0 last (values_at ports false event outputs))
    ∷ step (2 * number + 1)
    (changed 0 (values_at ports false event outputs) (values_at ports true event outputs))
    ∷ []

-- those of the events from this number on, each with its outputs
abbrev pub events_steps : ℕ → Ports → List (List Bool) → List Event → List (List (List Bool))
    → List WaveStep
events_steps number ports last (event ∷ events) (outputs ∷ others) =
    event_steps number ports last event outputs
    ++ events_steps (number + 1) ports (values_at ports true event outputs) events others
events_steps number ports last _ _ = []

-- the wave of events, each with the values of all outputs
abbrev pub vcd_wave : Ports → List Event → List (List (List Bool)) → Wave
vcd_wave ports events outputs =
    record { vars = variables ports; steps = events_steps 0 ports [] events outputs }
