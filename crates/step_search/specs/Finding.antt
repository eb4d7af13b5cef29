-- Where a search stands, and which states it suits.
use Rattle.std.specs.Prelude.{◌≡◌, List, Option, Some, None, Result, Ok, Err}
use Rattle.chw_terms.specs.declared.program.Program.{Program}
use Rattle.chw_terms.specs.declared.scene.Made.{Made}
use Rattle.chw_terms.specs.TermTree.{TermTree}
use Rattle.rewriting.specs.Runs.{Step, StepsTo}
use Rattle.rewriting.specs.Steps.{HasStepBy, Where}
use Rattle.rule_types.specs.States.{IsTypedState}
use Rattle.trials.specs.Trials.{built}
use Rattle.step_order.specs.Sought.{IsSought}
use Rattle.norm_lines.specs.declared.place.StepAt.{StepAt}
use Rattle.step_search.specs.declared.finder.Finder.{Finder}
use Rattle.step_search.specs.declared.place.Found.{Found}

-- every step of the state is at the place where the search stands, above it, or after it
abbrev pub Suits : Program → List Made → Finder → Type 0
Suits p made finder =
    (v : Where) (new : TermTree)
    → HasStepBy built p made v new → IsSought finder.made.number finder.path.items v

-- the search stands at the place of this step
abbrev pub StandsAt : Finder → StepAt → Type 0
StandsAt finder at =
    (finder.made.number ≡ at.made.number) × (finder.path.items ≡ at.path.items)

-- the search moves to the place of the step that it finds, and else it stays
abbrev pub Moves : {E : Type 0} → Result (Option Found) E → Finder → Finder → Type 0
Moves (Ok (Some found)) old new = StandsAt new found.at
Moves (Ok None) old new = new ≡ old
Moves (Err e) old new = new ≡ old

-- a search that stands at the place of a step suits the state to which the step leads
abbrev pub SuitsNextState : Type 0
SuitsNextState =
    (p : Program) (made made' : List Made) (s : Step) (finder : Finder)
    → IsTypedState p made → StepsTo built p made s made'
    → finder.made.number ≡ s.place.number → finder.path.items ≡ s.place.path
    → Suits p made' finder
