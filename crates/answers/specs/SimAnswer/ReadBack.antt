-- What waves are read back as.
use Rattle.std.specs.Prelude.{◌≡◌, ℕ, ◌+◌, ◌*◌, ◌<◌, Bool, true, false, List, [], length, Some}
use Rattle.std.specs.Prelude.{slice_get}
use Rattle.chw_clock.specs.declared.event.Event.{Event}
use Rattle.chw_clock.specs.declared.event.Ports.{Ports}
use Rattle.chw_terms.specs.declared.program.Program.{Program}
use Rattle.wave_text.specs.Values.{at_time}
use Rattle.wave_text.specs.VcdText.{VcdText}
use Rattle.wave_text.specs.declared.wave.Wave.{Wave}
use Rattle.waves.specs.Vcd.{values_at, variables}
use Rattle.answers.specs.SimAnswer.Simulation.{IsStimulus, MeantAt}

-- at both times of each event the wave has the values of all variables: just before the edges, with
-- all clocks down, and at them, with the clocks up that tick
pub record ShowsEvents (ports : Ports) (events : List Event) (outputs : List (List (List Bool)))
    (wave : Wave) : Type 0 where
  pub vars : wave.vars ≡ variables ports
  pub before : (k var : ℕ) (event : Event) (values : List (List Bool))
      → slice_get events k ≡ Some event → slice_get outputs k ≡ Some values
      → var < length (variables ports)
      → at_time wave var (2 * k) ≡ slice_get (values_at ports false event values) var
  pub edges : (k var : ℕ) (event : Event) (values : List (List Bool))
      → slice_get events k ≡ Some event → slice_get outputs k ≡ Some values
      → var < length (variables ports)
      → at_time wave var (2 * k + 1) ≡ slice_get (values_at ports true event values) var

-- the lines are the text of a wave, which has at each event of the text the inputs there and the
-- bits of what the program means at the outputs
pub record IsWaveOf (p : Program) (text lines : List ℕ) : Type 0 where
  pub ports : Ports
  pub events : List Event
  pub stimulus : IsStimulus p text ports events
  pub outputs : List (List (List Bool))
  pub meant : MeantAt p (length ports.outputs) [] events outputs
  pub wave : Wave
  pub read : VcdText lines wave
  pub shows : ShowsEvents ports events outputs wave
