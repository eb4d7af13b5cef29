-- How far a run has come, and what one step more makes of it.
use Rattle.std.specs.Prelude.{◌≡◌, ◌<◌, ◌≤◌, ◌⊎◌, ℕ, List, [], ◌∷◌, ◌++◌, length, set, Some}
use Rattle.std.specs.Prelude.{Option, None, IfSome, Result, Ok, Err, IsSome}
use Rattle.std.specs.List.{slice_get}
use Rattle.chw_base.specs.declared.limits.TheConstants.{MADE_DEFINITIONS, MADE_DEPTH}
use Rattle.chw_base.specs.declared.outcome.Or.{Or}
use Rattle.chw_base.specs.declared.outcome.Or.TheVariants.{Memory, Fault}
use Rattle.chw_types.specs.Polynomials.{ended}
use Rattle.chw_terms.specs.declared.program.Program.{Program}
use Rattle.chw_terms.specs.declared.rule.Rule.TheVariants.{Flat}
use Rattle.chw_terms.specs.declared.scene.Made.{Made}
use Rattle.chw_terms.specs.Depth.{depth}
use Rattle.chw_terms.specs.TermTree.{TermTree}
use Rattle.chw_typing.specs.Paths.{with_part}
use Rattle.chw_typing.specs.PartSpines.{spine_at}
use Rattle.term_frames.specs.Signatures.{IsSignature}
use Rattle.rewriting.specs.Instances.{HasInstance}
use Rattle.rewriting.specs.Origins.{Origins}
use Rattle.rewriting.specs.Runs.{Step, StepsTo}
use Rattle.rewriting.specs.Spots.{Spot}
use Rattle.rule_types.specs.States.{IsTypedState}
use Rattle.trials.specs.Trials.{built, with_new}
use Rattle.trials.specs.declared.trial.Change.{Change}
use Rattle.trials.specs.declared.trial.Change.TheVariants.{Put, Join}
use Rattle.norm_lines.specs.Places.{where_of}
use Rattle.step_search.specs.declared.place.Found.{Found}
use Rattle.norm_lines.specs.declared.place.StepAt.{StepAt}
use Rattle.chw_norm.specs.Bounds.{AreBounds, IsBound}
use Rattle.chw_norm.specs.Running.{AreShallow, FillsTable, HasDeep, IsWithinLimits, ShallowRun}
use Rattle.chw_norm.specs.Running.{Traces}
use Rattle.chw_norm.specs.declared.progress.Progress.{Progress}
use Rattle.chw_norm.specs.declared.running.RunFault.{RunFault}
use Rattle.chw_norm.specs.declared.running.RunFault.TheVariants.{Depth, Full, Spent}

-- a typed state, in which one body alone can be over the limit: that of the opening
pub record IsBetweenSteps (r : Progress) : Type 0 where
  pub table : IsSignature r.program.now r.signature
  pub typed : IsTypedState r.program.now r.made
  pub bounds : AreBounds r.made r.bounds.items
  pub few : length r.made ≤ MADE_DEFINITIONS
  pub shallow : (length r.made ≡ 1) ⊎ AreShallow r.made

-- the bounds with that of this definition at the end, where there is one: its depth, as it is shown
abbrev pub with_bound : List ℕ → Option Made → List ℕ
with_bound bounds None = bounds
with_bound bounds (Some it) = bounds ++ ended (depth it.body) ∷ []

-- the depth of a definition, where there is one, as it is shown
abbrev pub depth_of : Option Made → ℕ
depth_of None = 0
depth_of (Some it) = ended (depth it.body)

-- this definition is added, where there is one and room for it
pub record IsGrown (definition : Option Made) (r r' : Progress) : Type 0 where
  pub made : r'.made ≡ with_new r.made definition
  pub bounds : r'.bounds.items ≡ with_bound r.bounds.items definition
  pub room : IfSome definition (λ it. length r.made < MADE_DEFINITIONS)
  pub program : r'.program.now ≡ r.program.now
  pub signature : r'.signature ≡ r.signature

-- the answer is its depth; or there is no room for it, or memory was wanting
abbrev pub GrowEnds : Option Made → Progress → Progress → Result ℕ (Or RunFault) → Type 0
GrowEnds definition r r' (Ok deep) = IsGrown definition r r' × (deep ≡ depth_of definition)
GrowEnds None r r' (Err (Fault fault)) = ⊥
GrowEnds (Some it) r r' (Err (Fault fault)) =
    (fault ≡ Full) × (length r.made ≡ MADE_DEFINITIONS)
GrowEnds definition r r' (Err Memory) = Unit {0}

-- a whole spine stands at the place of this step
pub record HasSpine (made : List Made) (at : StepAt) : Type 0 where
  pub it : Made
  pub is : slice_get made at.made.number ≡ Some it
  pub spine : IsSome (spine_at it.body at.path.items)

-- the rule of letrecs makes this of what stands at the place of this step
pub record IsFlatThere (made : List Made) (at : StepAt) (new : TermTree) : Type 0 where
  pub it : Made
  pub is : slice_get made at.made.number ≡ Some it
  pub term : TermTree
  pub stands : spine_at it.body at.path.items ≡ Some term
  pub origins : Origins
  pub spot : Spot
  pub instance : HasInstance origins spot Flat term new

-- the change leads to this term there
abbrev pub IsMadeThere : List Made → StepAt → Change → TermTree → Type 0
IsMadeThere made at (Put t) new = t ≡ new
IsMadeThere made at Join new = IsFlatThere made at new

-- the term is put there, and this is a bound of the body, exact where it is over the limit
pub record IsPutAt (at : StepAt) (new : TermTree) (r r' : Progress) (bound : ℕ) : Type 0 where
  pub it : Made
  pub is : slice_get r.made at.made.number ≡ Some it
  pub body : TermTree
  pub body_is : body ≡ with_part it.body at.path.items new
  pub made : r'.made ≡ set r.made at.made.number (record it { body = body })
  pub bounds : r'.bounds.items ≡ set r.bounds.items at.made.number bound
  pub keeps : (n : ℕ) → slice_get r.bounds.items at.made.number ≡ Some n
      → IsBound n it.body → IsBound bound body
  pub exact : MADE_DEPTH < bound → MADE_DEPTH < depth body
  pub program : r'.program.now ≡ r.program.now
  pub signature : r'.signature ≡ r.signature

abbrev pub step_of : Found → TermTree → Step
step_of f new = record { place = where_of f.at; new = new }

-- the step is made, and it is the next one of the trace
pub record Advances (f : Found) (old new : List StepAt) (r r' : Progress) : Type 0 where
  pub program : r'.program.now ≡ r.program.now
  pub put : TermTree
  pub leads : StepsTo built r.program.now r.made (step_of f put) r'.made
  pub traced : new ≡ old ++ f.at ∷ []

-- how a step ends: it leads to a state within the limits, or to a body over the limit, or there is
-- no room for what it adds, or memory was wanting
abbrev pub StepEnds
    : Found → List StepAt → List StepAt → Progress → Progress
    → Result (Unit {0}) (Or RunFault) → Type 0
StepEnds f old new r r' (Ok done) =
    Advances f old new r r' × IsWithinLimits r'.made × IsBetweenSteps r'
StepEnds f old new r r' (Err (Fault Depth)) =
    Advances f old new r r' × (length r'.made ≤ MADE_DEFINITIONS) × HasDeep r'.made
StepEnds f old new r r' (Err (Fault Full)) =
    (new ≡ old) × FillsTable built r.program.now r.made
StepEnds f old new r r' (Err (Fault (Spent n))) = ⊥
StepEnds f old new r r' (Err Memory) = new ≡ old

-- so many steps of the program led here from its opening, and the trace has them
pub record IsUnderway (p : Program) (old new : List StepAt) (count : ℕ) (r : Progress) : Type 0
  where
    pub program : r.program.now ≡ p
    pub steps : List Step
    pub trace : Traces old new steps
    pub all : length steps ≡ count
    pub run : ShallowRun built p steps r.made
    pub between : IsBetweenSteps r
