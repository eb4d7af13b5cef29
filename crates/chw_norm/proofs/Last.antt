-- The states to which runs lead.
use Rattle.std.proofs.Common.{◌≡◌, List, refl, sym}
use Rattle.chw_terms.specs.declared.program.Program.{Program}
use Rattle.chw_terms.specs.declared.rule.Rule.{Rule}
use Rattle.chw_terms.specs.declared.scene.Made.{Made}
use Rattle.chw_terms.specs.Tidy.{IsTidy}
use Rattle.chw_typing.specs.Programs.{IsTyped}
use Rattle.made_states.specs.Laws.{AnyStepKeepsState}
use Rattle.opening.specs.Laws.{OpeningIsTyped}
use Rattle.rewriting.specs.RuleLaws.{OneState}
use Rattle.rewriting.specs.Runs.{Step}
use Rattle.rewriting.specs.Steps.{HasNoStep}
use Rattle.rule_types.specs.States.{IsTypedState}
use Rattle.chw_norm.specs.Running.{ShallowRun, ShallowSteps, no_step, step_and}
use Rattle.chw_norm.proofs.Normal.{rest_of_run}

-- from a state without a step no steps lead further
ends_there : {rules : List Rule} {p : Program} {from made : List Made} {steps : List Step}
    → HasNoStep rules p from → ShallowSteps rules p from steps made → from ≡ made
ends_there none no_step = refl
ends_there none (step_and {s = s} first h more) =
    absurd (none s.place s.new first.is_first.step)

pub one_last : (rules : List Rule) (p : Program) (steps others : List Step)
    (made made' : List Made) → OneState → ShallowRun rules p steps made → HasNoStep rules p made
    → ShallowRun rules p others made' → HasNoStep rules p made' → made ≡ made'
one_last rules p steps others made made' law run none other none' =
    sym (ends_there none' (rest_of_run law none run other).leads)

-- steps lead from a typed state to a typed one
steps_keep : {rules : List Rule} {p : Program} {from made : List Made} {steps : List Step}
    → AnyStepKeepsState → IsTypedState p from → ShallowSteps rules p from steps made
    → IsTypedState p made
steps_keep law h no_step = h
steps_keep {rules} {p} {from} law h (step_and {made' = next} {s = s} leads shallow more) =
    steps_keep law (law rules p from next s h leads) more

pub last_is_typed : (rules : List Rule) (p : Program) (steps : List Step) (made : List Made)
    → OpeningIsTyped → AnyStepKeepsState → IsTidy p → IsTyped p → ShallowRun rules p steps made
    → IsTypedState p made
last_is_typed rules p steps made opens law tidy typed run =
    steps_keep law (opens p run.opening tidy typed run.opens) run.runs
