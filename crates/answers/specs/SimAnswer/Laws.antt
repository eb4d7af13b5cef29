-- What is promised of simulations.
use Rattle.std.specs.Prelude.{◌≡◌, ℕ, ◌<◌, Bool, List, [], ◌++◌, length, reverse}
use Rattle.chw_clock.specs.declared.event.Event.{Event}
use Rattle.chw_clock.specs.declared.event.Ports.{Ports}
use Rattle.chw_terms.specs.Tidy.{IsTidy}
use Rattle.chw_terms.specs.declared.program.Program.{Program}
use Rattle.chw_terms.specs.declared.scene.Made.{Made}
use Rattle.chw_typing.specs.Programs.{IsTyped}
use Rattle.chw_meaning.specs.Means.{Fit}
use Rattle.net_means.specs.Outputs.{NetMeans}
use Rattle.net_run.specs.Runs.{OutputsAt}
use Rattle.netlist.specs.Sound.{Sound}
use Rattle.netlist.specs.declared.net.Flat.{Flat}
use Rattle.chw_words.specs.declared.command.SimForm.{SimForm}
use Rattle.chw_words.specs.declared.command.SimForm.TheVariants.{Waves}
use Rattle.answers.specs.Compilation.Compiling.{EndsIn}
use Rattle.answers.specs.SimAnswer.Simulation.{IsSimFault, IsSimulation, IsStimulus, MeantAt}
use Rattle.answers.specs.SimAnswer.ReadBack.{IsWaveOf}
use Rattle.answers.specs.declared.sim_answer.fault.SimFault.{SimFault}

-- a program and a text have at most one simulation in a form
abbrev pub OneSimulation : Type 0
OneSimulation =
    (p : Program) (form : SimForm) (text a b : List ℕ)
    → IsSimulation p form text a → IsSimulation p form text b → a ≡ b

-- a program means one list of outputs at events, behind a past
abbrev pub OneMeant : Type 0
OneMeant =
    (p : Program) (many : ℕ) (past events : List Event) (a b : List (List (List Bool)))
    → MeantAt p many past events a → MeantAt p many past events b → a ≡ b

-- a stimulus of values for the program isn't refused
abbrev pub NothingRefusesAStimulus : Type 0
NothingRefusesAStimulus =
    (p : Program) (text : List ℕ) (ports : Ports) (events : List Event) (fault : SimFault)
    → IsStimulus p text ports events → IsSimFault p text fault → ⊥

-- a text is refused for one fault
abbrev pub OneFault : Type 0
OneFault =
    (p : Program) (text : List ℕ) (a b : SimFault)
    → IsSimFault p text a → IsSimFault p text b → a ≡ b

-- the events up to each of a stimulus of values are a history of the program
abbrev pub HistoriesFit : Type 0
HistoriesFit =
    (p : Program) (text : List ℕ) (ports : Ports) (events earlier later : List Event)
    → IsTidy p → IsStimulus p text ports events → events ≡ earlier ++ later → 0 < length earlier
    → Fit p (reverse earlier)

-- the outputs of a sound flat net that has the bits of what the program means, at the events of a
-- stimulus of values, are the bits of what the program means at the histories up to them
abbrev pub OutputsAreMeant : Type 0
OutputsAreMeant =
    (p : Program) (flat : Flat) (text : List ℕ) (events : List Event)
    (outputs : List (List (List Bool)))
    → IsTidy p → Sound flat → NetMeans p flat → IsStimulus p text flat.ports events
    → OutputsAt flat [] events outputs → MeantAt p (length flat.ports.outputs) [] events outputs

-- the waves of a program whose run ends are read back as those of what it means
abbrev pub WavesAreRead : Type 0
WavesAreRead =
    (p : Program) (budget : ℕ) (state : List Made) (text lines : List ℕ)
    → IsTidy p → IsTyped p → EndsIn p budget state → IsSimulation p Waves text lines
    → IsWaveOf p text lines
