-- Runs within a budget of steps and the limits of a state, and how they end.
use Rattle.std.specs.Prelude.{◌≡◌, ◌<◌, ◌≤◌, ℕ, List, [], ◌∷◌, ◌++◌, map, length, Some, Result, Ok}
use Rattle.std.specs.Prelude.{Err}
use Rattle.std.specs.List.{slice_get}
use Rattle.chw_base.specs.declared.limits.TheConstants.{MADE_DEFINITIONS, MADE_DEPTH}
use Rattle.chw_base.specs.declared.outcome.Or.{Or}
use Rattle.chw_base.specs.declared.outcome.Or.TheVariants.{Memory, Fault}
use Rattle.chw_terms.specs.declared.program.Program.{Program}
use Rattle.chw_terms.specs.declared.rule.Rule.{Rule}
use Rattle.chw_terms.specs.declared.scene.Made.{Made}
use Rattle.chw_terms.specs.Depth.{depth}
use Rattle.chw_terms.specs.TermTree.{TermTree}
use Rattle.rewriting.specs.Runs.{IsOpening, Step, StepsTo}
use Rattle.rewriting.specs.Steps.{HasNoStep, HasStepBy, Where}
use Rattle.norm_lines.specs.Places.{where_of}
use Rattle.norm_lines.specs.declared.place.StepAt.{StepAt}
use Rattle.chw_norm.specs.declared.running.RunFault.{RunFault}
use Rattle.chw_norm.specs.declared.running.RunFault.TheVariants.{Depth, Full, Spent}

-- no body is deeper than the limit
abbrev pub AreShallow : List Made → Type 0
AreShallow made =
    (m : ℕ) (it : Made) → slice_get made m ≡ Some it → depth it.body ≤ MADE_DEPTH

-- no body is deeper than the limit, and there are no more made definitions than may be held
pub record IsWithinLimits (made : List Made) : Type 0 where
  pub shallow : AreShallow made
  pub few : length made ≤ MADE_DEFINITIONS

-- some body is deeper than the limit
pub record HasDeep (made : List Made) : Type 0 where
  pub number : ℕ
  pub it : Made
  pub is : slice_get made number ≡ Some it
  pub deep : MADE_DEPTH < depth it.body

-- first steps that lead from one state to another, each to a state within the limits
pub data ShallowSteps (rules : List Rule) (p : Program)
    : List Made → List Step → List Made → Type 0 where
  no_step : {made : List Made} → ShallowSteps rules p made [] made
  step_and : {made made' made'' : List Made} {s : Step} {steps : List Step}
      → StepsTo rules p made s made' → IsWithinLimits made'
      → ShallowSteps rules p made' steps made'' → ShallowSteps rules p made (s ∷ steps) made''

-- the steps lead from the state with which the program opens to this one, each to a state within
-- the limits
pub record ShallowRun (rules : List Rule) (p : Program) (steps : List Step) (made : List Made)
    : Type 0 where
  pub opening : List Made
  pub opens : IsOpening p opening
  pub runs : ShallowSteps rules p opening steps made

-- the last of the steps leads to a state with a body over the limit, which holds no more made
-- definitions than may be held, and those before it lead to states within the limits
pub record RunsTooDeep (rules : List Rule) (p : Program) (steps : List Step) : Type 0 where
  pub before : List Step
  pub last : Step
  pub are : steps ≡ before ++ last ∷ []
  pub shallow : List Made
  pub run : ShallowRun rules p before shallow
  pub made : List Made
  pub leads : StepsTo rules p shallow last made
  pub few : length made ≤ MADE_DEFINITIONS
  pub deep : HasDeep made

-- the first step leads to more made definitions than may be held
pub record FillsTable (rules : List Rule) (p : Program) (made : List Made) : Type 0 where
  pub step : Step
  pub next : List Made
  pub leads : StepsTo rules p made step next
  pub many : MADE_DEFINITIONS < length next

-- a step is left
pub record IsLeft (rules : List Rule) (p : Program) (made : List Made) : Type 0 where
  pub place : Where
  pub new : TermTree
  pub step : HasStepBy rules p made place new

-- how a run ends that may make so many steps, and has made these
pub data Ends (rules : List Rule) (p : Program) (budget : ℕ) (steps : List Step)
    : Result (List Made) (Or RunFault) → Type 0 where
  -- no step is left
  done : {made : List Made} → ShallowRun rules p steps made → HasNoStep rules p made
      → Ends rules p budget steps (Ok made)
  -- the budget is spent, and a step is left
  spent : {made : List Made} → ShallowRun rules p steps made → IsLeft rules p made
      → length steps ≡ budget → Ends rules p budget steps (Err (Fault (Spent budget)))
  -- a step is left within the budget, and for what it adds there is no room
  full : {made : List Made} → ShallowRun rules p steps made → length steps < budget
      → FillsTable rules p made → Ends rules p budget steps (Err (Fault Full))
  -- a body is over the limit
  deep : RunsTooDeep rules p steps → Ends rules p budget steps (Err (Fault Depth))
  -- memory was wanting
  no_memory : {made : List Made} → ShallowRun rules p steps made
      → Ends rules p budget steps (Err Memory)

-- the places of the steps are appended to those that are there
pub record Traces (old new : List StepAt) (steps : List Step) : Type 0 where
  pub added : List StepAt
  pub traced : new ≡ old ++ added
  pub places : map where_of added ≡ map (λ (s : Step). s.place) steps

-- a run of so many steps at most, with its trace, and how it ends
pub record Runs (rules : List Rule) (p : Program) (budget : ℕ) (old new : List StepAt)
    (answer : Result (List Made) (Or RunFault)) : Type 0 where
  pub steps : List Step
  pub trace : Traces old new steps
  pub within : length steps ≤ budget
  pub ends : Ends rules p budget steps answer
