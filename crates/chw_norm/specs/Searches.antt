-- The searches of a run, and how many looks they take.
use Rattle.std.specs.Prelude.{ℕ, List, [], ◌∷◌, ◌++◌}
use Rattle.chw_terms.specs.declared.program.Program.{Program}
use Rattle.chw_terms.specs.declared.rule.Rule.{Rule}
use Rattle.chw_terms.specs.declared.scene.Made.{Made}
use Rattle.rewriting.specs.Runs.{IsOpening, Step, StepsTo}
use Rattle.norm_lines.specs.declared.place.StepAt.{StepAt}
use Rattle.step_search.specs.Seen.{LooksFrom}
use Rattle.chw_norm.specs.Running.{Traces}

-- searches, each with the step to which it led, which lead by these steps from this state to that
-- one; the next search begins there at this place. The first one begins at the root of the first
-- made definition, and each other at the place of the step before.
pub data SearchesLead (rules : List Rule) (p : Program) (opening : List Made) (before : ℕ)
    : List Step → List Made → ℕ → List ℕ → ℕ → Type 0 where
  no_search : SearchesLead rules p opening before [] opening 0 [] before
  then_one : {steps : List Step} {made made' : List Made} {m : ℕ} {from : List ℕ} {s : Step}
      {between after : ℕ}
      → SearchesLead rules p opening before steps made m from between
      → LooksFrom rules p made m from between after
      → StepsTo rules p made s made'
      → SearchesLead rules p opening before (steps ++ s ∷ []) made' s.place.number s.place.path
      after

-- a run takes the looks of such searches by the steps that it traces, and of one more from the
-- state on to which they lead
pub record RunLooks (rules : List Rule) (p : Program) (old new : List StepAt)
    (before after : ℕ) : Type 0 where
  pub steps : List Step
  pub trace : Traces old new steps
  pub opening : List Made
  pub opens : IsOpening p opening
  pub made : List Made
  pub number : ℕ
  pub path : List ℕ
  pub between : ℕ
  pub searches : SearchesLead rules p opening before steps made number path between
  pub last : LooksFrom rules p made number path between after
