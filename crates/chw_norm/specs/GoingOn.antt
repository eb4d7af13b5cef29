-- Further steps in one letrec, after a step.
use Rattle.std.specs.Prelude.{◌≡◌, ◌≤◌, ◌+◌, ◌*◌, ℕ, true, List, [], ◌∷◌, ◌++◌, length, map}
use Rattle.std.specs.Prelude.{reverse, Result, Ok, Err}
use Rattle.chw_base.specs.declared.outcome.NoMemory.{NoMemory}
use Rattle.chw_terms.specs.declared.program.Program.{Program}
use Rattle.chw_terms.specs.declared.scene.Made.{Made}
use Rattle.chw_terms.specs.declared.scene.Place.{Place}
use Rattle.chw_terms.specs.TermTree.{TermTree}
use Rattle.chw_types.specs.TypeTree.{TypeTree}
use Rattle.letrec_steps.specs.Tops.{HasNoStepBefore, IsTopIn}
use Rattle.norm_lines.specs.declared.place.StepAt.{StepAt}
use Rattle.rewriting.specs.Runs.{Step}
use Rattle.rewriting.specs.Named.{mode_of, UnderLambdas}
use Rattle.rewriting.specs.Spots.{spot, spot_of}
use Rattle.rewriting.specs.Steps.{HasStepBy, Where}
use Rattle.trials.specs.Trials.{built}
use Rattle.step_order.specs.Sought.{IsSought}
use Rattle.step_search.specs.declared.finder.Finder.{Finder}
use Rattle.chw_norm.specs.declared.progress.Progress.{Progress}
use Rattle.chw_norm.specs.Running.{ShallowSteps, Traces}
use Rattle.chw_norm.specs.Underway.{IsBetweenSteps}

-- so many steps at most lead from one state to another, each to a state within the limits. The
-- trace has them, and for each there are twenty-one looks at most
pub record MoreSteps (p : Program) (made made' : List Made) (old new : List StepAt)
    (left before after : ℕ) : Type 0 where
  pub steps : List Step
  pub lead : ShallowSteps built p made steps made'
  pub trace : Traces old new steps
  pub few : length steps ≤ left
  pub looks : after ≤ before + 21 * length steps

-- the place of the last of these, or this one where there is none
abbrev pub EndsAt : ℕ → List ℕ → List Where → ℕ → List ℕ → Type 0
EndsAt m from [] m' from' = (m' ≡ m) × (from' ≡ from)
EndsAt m from (w ∷ ws) m' from' = EndsAt w.number w.path ws m' from'

-- every step of the state is at this place, above it, or after it
abbrev pub SuitsAt : Program → List Made → ℕ → List ℕ → Type 0
SuitsAt p made m from =
    (v : Where) (new : TermTree) → HasStepBy built p made v new → IsSought m from v

-- the places of steps
abbrev pub places_of : List Step → List Where
places_of steps = map (λ (s : Step). s.place) steps

-- they lead from what a run held to what it holds
pub record HasRunOn (r r' : Progress) (old new : List StepAt) (left before after : ℕ) : Type 0
  where
    pub more : MoreSteps r.program.now r.made r'.made old new left before after
    pub program : r'.program.now ≡ r.program.now
    pub between : IsBetweenSteps r'

-- to some state
pub record RanSomewhere (r : Progress) (old new : List StepAt) (left before after : ℕ) : Type 0
  where
    pub made : List Made
    pub more : MoreSteps r.program.now r.made made old new left before after

-- how further steps end, where nothing is answered
abbrev pub RunEnds
    : Progress → Progress → List StepAt → List StepAt → ℕ → ℕ → ℕ
    → Result (Unit {0}) NoMemory → Type 0
RunEnds r r' old new left before after (Ok done) = HasRunOn r r' old new left before after
RunEnds r r' old new left before after (Err e) = RanSomewhere r old new left before after

-- so, and the search stands at the place of the last one; so many steps may still be made
pub record WentOn (r r' : Progress) (f f' : Finder) (old new : List StepAt)
    (left left' before after : ℕ) : Type 0 where
  pub ran : HasRunOn r r' old new left before after
  pub stands : EndsAt f.made.number f.path.items (places_of ran.more.steps) f'.made.number
      f'.path.items
  pub rest : left' + length ran.more.steps ≡ left

-- how further steps end
abbrev pub GoOnEnds
    : Progress → Progress → Finder → Finder → List StepAt → List StepAt → ℕ → ℕ → ℕ
    → Result ℕ NoMemory → Type 0
GoOnEnds r r' f f' old new left before after (Ok left') =
    WentOn r r' f f' old new left left' before after
GoOnEnds r r' f f' old new left before after (Err e) =
    RanSomewhere r old new left before after

-- the place is that of the term below the leading lambdas of this made definition, at this path,
-- and no made definition before it has a step
pub record IsAtTop (r : Progress) (m : ℕ) (q : List ℕ) (place : Place) : Type 0 where
  pub it : Made
  pub term : TermTree
  pub top : IsTopIn r.made m it q (spot_of place) term
  pub none_before : HasNoStepBefore built r.program.now r.made m

-- below the leading lambdas of the term the place and the path are these
pub record Reaches (at at' : Place) (path path' q : List ℕ) (vs : List TypeTree) : Type 0 where
  pub goes : path' ≡ path ++ q
  pub mode : at'.mode ≡ at.mode
  pub result : at'.result ≡ at.result
  pub vars : reverse at'.vars ≡ vs

abbrev pub IsEntered : Place → Place → List ℕ → List ℕ → TermTree → TypeTree → Type 0
IsEntered at at' path path' e t =
    (q : List ℕ) (vs : List TypeTree) (x : TermTree)
    → UnderLambdas (reverse at.vars) e t q vs x → Reaches at at' path path' q vs

-- so from the root of a made definition
abbrev pub IsTopOf : Made → Place → List ℕ → Type 0
IsTopOf it at path =
    (q : List ℕ) (vs : List TypeTree) (x : TermTree)
    → UnderLambdas [] it.body it.ty q vs x
    → (path ≡ q) × (spot_of at ≡ spot (mode_of it.sort) true vs)
