-- What is promised of runs.
use Rattle.std.specs.Prelude.{◌≡◌, ◌≤◌, ℕ, List, length, Err}
use Rattle.chw_base.specs.declared.outcome.Or.TheVariants.{Fault}
use Rattle.chw_terms.specs.declared.program.Program.{Program}
use Rattle.chw_terms.specs.declared.rule.Rule.{Rule}
use Rattle.chw_terms.specs.declared.scene.Made.{Made}
use Rattle.chw_terms.specs.Tidy.{IsTidy}
use Rattle.chw_typing.specs.Programs.{IsTyped}
use Rattle.rewriting.specs.Runs.{Step}
use Rattle.rewriting.specs.Steps.{HasNoStep}
use Rattle.rule_types.specs.States.{IsTypedState}
use Rattle.chw_norm.specs.Running.{Ends, ShallowRun}
use Rattle.chw_norm.specs.declared.running.RunFault.{RunFault}

-- where a run of so many steps at most leads to a state without a step, and each of them to a state
-- within the limits, no run within that budget is refused
abbrev pub NothingRefusesANormalRun : Type 0
NothingRefusesANormalRun =
    (rules : List Rule) (p : Program) (budget : ℕ)
    (steps others : List Step) (made : List Made) (fault : RunFault)
    → ShallowRun rules p steps made → HasNoStep rules p made → length steps ≤ budget
    → Ends rules p budget others (Err (Fault fault)) → ⊥

-- runs to states without a step lead to one state
abbrev pub OneLastState : Type 0
OneLastState =
    (rules : List Rule) (p : Program) (steps others : List Step) (made made' : List Made)
    → ShallowRun rules p steps made → HasNoStep rules p made
    → ShallowRun rules p others made' → HasNoStep rules p made'
    → made ≡ made'

-- the state to which a run of a tidy and typed program leads is typed
abbrev pub LastStatesAreTyped : Type 0
LastStatesAreTyped =
    (rules : List Rule) (p : Program) (steps : List Step) (made : List Made)
    → IsTidy p → IsTyped p → ShallowRun rules p steps made → IsTypedState p made
