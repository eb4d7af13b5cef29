-- What is promised of runs of rewriting: in each state every body acts as its origin, and so does
-- the whole of a made definition.
use Rattle.std.specs.Prelude.{◌≡◌, ℕ, List, Some}
use Rattle.std.specs.List.{slice_get}
use Rattle.chw_terms.specs.declared.program.Def.{Def}
use Rattle.chw_terms.specs.declared.program.Program.{Program}
use Rattle.chw_terms.specs.declared.rule.Rule.{Rule}
use Rattle.chw_terms.specs.declared.scene.Made.{Made}
use Rattle.chw_terms.specs.TermTree.{TermTree, global}
use Rattle.chw_terms.specs.Tidy.{IsTidy}
use Rattle.chw_typing.specs.Programs.{IsTyped}
use Rattle.chw_meaning.specs.Gives.{Better}
use Rattle.rewriting.specs.Origins.{origin_of}
use Rattle.rewriting.specs.Runs.{IsOpening, Run, RunsTo, Step, StepsTo}
use Rattle.rewriting.specs.Steps.{origins_in}
use Rattle.rule_types.specs.States.{IsTypedState}
use Rattle.normal_forms.specs.Uses.{WholeOf}
use Rattle.act_runs.specs.States.{TypedChain}

-- each body in the state, with the origins of made definitions, acts by a chain as its own origin
abbrev pub BodiesAct : Program → List Made → Type 0
BodiesAct p state =
    (m : ℕ) (it : Made) → slice_get state m ≡ Some it
    → TypedChain p it.ty (origin_of (origins_in p state) it.body) it.origin

-- so in the state with which a program opens
abbrev pub OpeningActs : Type 0
OpeningActs =
    (p : Program) (state : List Made)
    → IsTypedState p state → IsOpening p state → BodiesAct p state

-- each body gives nothing that its origin doesn't
abbrev pub BodiesGive : Type 0
BodiesGive =
    (p : Program) (state : List Made) (m : ℕ) (it : Made)
    → IsTypedState p state → BodiesAct p state → slice_get state m ≡ Some it
    → Better p it.ty (origin_of (origins_in p state) it.body) it.origin

-- a step keeps it so
abbrev pub StepsKeepActs : Type 0
StepsKeepActs =
    (rules : List Rule) (p : Program) (made made' : List Made) (s : Step)
    → IsTypedState p made → StepsTo rules p made s made'
    → BodiesAct p made → BodiesAct p made'

-- so does each run
abbrev pub RunsKeepActs : Type 0
RunsKeepActs =
    (rules : List Rule) (p : Program) (n : ℕ) (made : List Made) (steps : List Step)
    (made' : List Made)
    → IsTypedState p made → BodiesAct p made → RunsTo rules p n made steps made'
    → IsTypedState p made' × BodiesAct p made'

-- where each body acts so, a made definition as a whole acts by a chain as its origin
abbrev pub WholesAct : Type 0
WholesAct =
    (p : Program) (state : List Made) (m : ℕ) (it : Made) (e : TermTree)
    → IsTypedState p state → BodiesAct p state
    → slice_get state m ≡ Some it → WholeOf state m e
    → TypedChain p it.ty e it.origin

-- in each state of a run of a tidy and typed program each body acts by a chain as its origin
abbrev pub RunActs : Type 0
RunActs =
    (rules : List Rule) (p : Program) (n : ℕ) (steps : List Step) (made : List Made)
    → IsTidy p → IsTyped p → Run rules p n steps made
    → IsTypedState p made × BodiesAct p made

-- and what made definition 0 as a whole gives there, the program's top gives
abbrev pub RunGives : Type 0
RunGives =
    (rules : List Rule) (p : Program) (n : ℕ) (steps : List Step) (made : List Made)
    (it : Def) (e : TermTree)
    → IsTidy p → IsTyped p → Run rules p n steps made
    → slice_get p.defs p.top.«def».number ≡ Some it
    → WholeOf made 0 e
    → Better p it.ty e (global p.top.«def».number)
