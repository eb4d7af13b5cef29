-- What is promised of the states to which steps and runs lead.
use Rattle.std.specs.Prelude.{◌≡◌, ◌⊎◌, ℕ, List, ◌++◌, map}
use Rattle.chw_terms.specs.declared.program.Program.{Program}
use Rattle.chw_terms.specs.declared.rule.Rule.{Rule}
use Rattle.chw_terms.specs.declared.rule.Rule.TheVariants.{Spec}
use Rattle.chw_terms.specs.declared.scene.Made.{Made}
use Rattle.chw_terms.specs.TermTree.{TermTree}
use Rattle.chw_terms.specs.Tidy.{IsTidy}
use Rattle.chw_typing.specs.Programs.{IsTyped}
use Rattle.rewriting.specs.Origins.{MadeOf, made_of}
use Rattle.rewriting.specs.Numbers.{HasOrigin}
use Rattle.rewriting.specs.Runs.{Run, RunsTo, Step, StepsTo}
use Rattle.rewriting.specs.Steps.{HasStepBy, origins_in, Where}
use Rattle.rule_types.specs.States.{IsTypedState}
use Rattle.step_order.specs.Sought.{IsSought}

-- the made definitions of a state are still those of a later one, with the same origins, types and
-- sorts; others may stand behind them
abbrev pub OriginsStay : List Made → List Made → Type 0
OriginsStay made made' = (more : List MadeOf) × (map made_of made' ≡ map made_of made ++ more)

-- a step changes no origin
abbrev pub StepsKeepOrigins : Type 0
StepsKeepOrigins =
    (rules : List Rule) (p : Program) (made made' : List Made) (s : Step)
    → StepsTo rules p made s made' → OriginsStay made made'

-- nor do many
abbrev pub RunsKeepOrigins : Type 0
RunsKeepOrigins =
    (rules : List Rule) (p : Program) (n : ℕ) (made made' : List Made) (steps : List Step)
    → RunsTo rules p n made steps made' → OriginsStay made made'

-- in each state of a run one made definition at most has an origin
abbrev pub OneOriginEach : Type 0
OneOriginEach =
    (rules : List Rule) (p : Program) (n : ℕ) (steps : List Step) (made : List Made)
    (e : TermTree) (i j : ℕ)
    → Run rules p n steps made
    → HasOrigin (origins_in p made) e i → HasOrigin (origins_in p made) e j
    → i ≡ j

-- a step by the rule that makes definitions leads from a typed state to a typed one
abbrev pub SpecKeepsState : Type 0
SpecKeepsState =
    (rules : List Rule) (p : Program) (made made' : List Made) (s : Step)
    → IsTypedState p made → s.place.rule ≡ Spec → StepsTo rules p made s made'
    → IsTypedState p made'

-- so does a step by any rule
abbrev pub AnyStepKeepsState : Type 0
AnyStepKeepsState =
    (rules : List Rule) (p : Program) (made made' : List Made) (s : Step)
    → IsTypedState p made → StepsTo rules p made s made'
    → IsTypedState p made'

-- and so do many
abbrev pub RunsToTypedState : Type 0
RunsToTypedState =
    (rules : List Rule) (p : Program) (n : ℕ) (made made' : List Made) (steps : List Step)
    → IsTypedState p made → RunsTo rules p n made steps made'
    → IsTypedState p made'

-- each state of a run of a tidy and typed program is typed
abbrev pub RunsKeepState : Type 0
RunsKeepState =
    (rules : List Rule) (p : Program) (n : ℕ) (steps : List Step) (made : List Made)
    → IsTidy p → IsTyped p → Run rules p n steps made
    → IsTypedState p made

-- by this rule a step can be made at this place
abbrev pub CanStep : List Rule → Program → List Made → Where → Type 0
CanStep rules p made w = (new : TermTree) × HasStepBy rules p made w new

-- a step of the state after a step of a typed state is sought from the place of that one on, or a
-- step could be made there before
abbrev pub AnyStepStaysBehind : Type 0
AnyStepStaysBehind =
    (rules : List Rule) (p : Program) (made made' : List Made) (s : Step) (v : Where)
    → IsTypedState p made → StepsTo rules p made s made' → CanStep rules p made' v
    → IsSought s.place.number s.place.path v ⊎ CanStep rules p made v

-- so, since that one was the first, each is sought from there on
abbrev pub AnyStepIsSought : Type 0
AnyStepIsSought =
    (rules : List Rule) (p : Program) (made made' : List Made) (s : Step) (v : Where)
    → IsTypedState p made → StepsTo rules p made s made' → CanStep rules p made' v
    → IsSought s.place.number s.place.path v
