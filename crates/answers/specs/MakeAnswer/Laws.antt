-- What is promised of the stimulus and of tallies.
use Rattle.std.specs.Prelude.{◌≡◌, ◌≤◌, ℕ, List, [], ◌∷◌}
use Rattle.chw_base.specs.declared.index.DomId.{DomId}
use Rattle.chw_clock.specs.declared.event.Ports.{Ports}
use Rattle.type_ports.specs.Ports.{leaf_of}
use Rattle.chw_types.specs.TypeTree.{TypeTree, scalar}
use Rattle.chw_types.specs.declared.kind.Scalar.{Scalar}
use Rattle.chw_terms.specs.declared.program.Program.{Program}
use Rattle.chw_meaning.specs.Means.{HasPorts}
use Rattle.stimulus.specs.Stimulus.{Stim}
use Rattle.answers.specs.SimAnswer.Simulation.{IsStimulus}
use Rattle.answers.specs.MakeAnswer.Events.{HasX, make_events, make_stimulus}
use Rattle.answers.specs.MakeAnswer.Sums.{odd_sum}
use Rattle.answers.specs.MakeAnswer.Tally.{IsNarrow, IsSummed, IsTally}
use Rattle.answers.specs.declared.make_answer.tally.Tally.{Tally}

-- the text is a stimulus of these events, for up to 64 taps
abbrev pub MadeStimuliAreRead : Type 0
MadeStimuliAreRead =
    (taps : ℕ) (ports : Ports) → taps ≤ 64 → HasX ports
    → Stim (make_stimulus taps) ports (make_events taps)

-- it is one of values for a program with these ports whose input is a signal of scalars
abbrev pub MadeStimuliAreValues : Type 0
MadeStimuliAreValues =
    (p : Program) (ports : Ports) (taps : ℕ) (dom : DomId) (s : Scalar) (width : TypeTree)
    → taps ≤ 64 → HasX ports → (has : HasPorts p ports)
    → has.ins ≡ leaf_of dom (scalar s width) ∷ []
    → IsStimulus p (make_stimulus taps) ports (make_events taps)

-- of an output of at most 32 bits the sum is that of its numbers, and nothing is cut off
abbrev pub SumsAreWhole : Type 0
SumsAreWhole =
    (p : Program) (text : List ℕ) (sum : ℕ) → (s : IsSummed p text sum) → IsNarrow s.ports
    → sum ≡ odd_sum s.outputs

-- a program and a text have one tally at most, whatever the budgets are
abbrev pub OneTally : Type 0
OneTally =
    (p : Program) (budget other : ℕ) (text : List ℕ) (a b : Tally)
    → IsTally p budget text a → IsTally p other text b → a ≡ b
