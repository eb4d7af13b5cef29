-- The values of variables over time.
use Rattle.std.specs.Prelude.{ℕ, ◌==◌, nat_le, Bool, List, [], ◌∷◌, Option, None, Some}
use Rattle.std.specs.Prelude.{if◌then◌else◌}
use Rattle.wave_text.specs.declared.wave.Change.{Change}
use Rattle.wave_text.specs.declared.wave.Wave.{Wave}
use Rattle.wave_text.specs.declared.wave.WaveStep.{WaveStep}

-- the value of the variable of this number behind these changes, before which it had another one
-- or none
abbrev pub latest : ℕ → Option (List Bool) → List Change → Option (List Bool)
latest var before [] = before
latest var before (change ∷ changes) =
    latest var (if change.var == var then Some change.value else before) changes

-- its value at a time, by these steps, before which it had another or none
abbrev pub at_steps : (var time : ℕ) → Option (List Bool) → List WaveStep → Option (List Bool)
at_steps var time before [] = before
at_steps var time before (step ∷ steps) =
    at_steps var time
    (if nat_le step.time time then latest var before step.changes else before) steps

-- the value of the variable of this number at a time: that of its last change at or before it
abbrev pub at_time : Wave → (var time : ℕ) → Option (List Bool)
at_time wave var time = at_steps var time None wave.steps
