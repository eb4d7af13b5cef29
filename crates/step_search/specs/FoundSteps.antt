-- The first step of a state from a place on.
use Rattle.std.specs.Prelude.{◌≡◌, ℕ, true, List, reverse, Option, None, MatchOption}
use Rattle.chw_types.specs.TypeTree.{TypeTree}
use Rattle.chw_terms.specs.declared.program.Program.{Program}
use Rattle.chw_terms.specs.declared.rule.Rule.{Rule}
use Rattle.chw_terms.specs.declared.scene.Made.{Made}
use Rattle.chw_terms.specs.declared.scene.Mode.{Mode}
use Rattle.chw_terms.specs.TermTree.{TermTree}
use Rattle.chw_typing.specs.Scopes.{Setting}
use Rattle.rewriting.specs.Named.{UnderLambdas}
use Rattle.rewriting.specs.Spots.{spot}
use Rattle.rewriting.specs.Steps.{Where, IsBefore, HasStepBy, HasNoStep, IsFirst}
use Rattle.trials.specs.Trials.{Adds, ChangesTo}
use Rattle.trials.specs.declared.trial.Change.{Change}
use Rattle.active_parts.specs.Grounds.{IsTypedAt}
use Rattle.step_order.specs.Sought.{IsSought}
use Rattle.norm_lines.specs.Places.{where_of}
use Rattle.step_search.specs.declared.place.Found.{Found}
use Rattle.step_search.specs.declared.trail.Trail.{Trail}

-- of the steps by these rules that are sought from this place on, the change by the first, and what
-- that adds
pub record IsFirstFrom (rules : List Rule) (p : Program) (made : List Made) (m : ℕ)
    (from : List ℕ) (w : Where) (change : Change) (definition : Option Made) : Type 0 where
  pub new : TermTree
  pub changes : ChangesTo w.rule change new
  pub step : HasStepBy rules p made w new
  pub added : Adds p made step.1.at step.1.term w.rule definition
  pub sought : IsSought m from w
  pub first : (v : Where) (other : TermTree)
      → HasStepBy rules p made v other → IsSought m from v → IsBefore v w → ⊥

-- none is sought from there on
abbrev pub HasNoneFrom : List Rule → Program → List Made → ℕ → List ℕ → Type 0
HasNoneFrom rules p made m from =
    (w : Where) (new : TermTree) → HasStepBy rules p made w new → IsSought m from w → ⊥

-- the answer is the first step from there on, or nothing where there is none
abbrev pub FindsFrom : List Rule → Program → List Made → ℕ → List ℕ → Option Found → Type 0
FindsFrom rules p made m from answer =
    MatchOption answer (HasNoneFrom rules p made m from)
    (λ f. IsFirstFrom rules p made m from (where_of f.at) f.change f.definition)

-- of those in the made definition of this number the change by the first, and what that adds
pub record IsFirstIn (rules : List Rule) (p : Program) (made : List Made) (n m : ℕ)
    (from : List ℕ) (w : Where) (change : Change) (definition : Option Made) : Type 0 where
  pub new : TermTree
  pub changes : ChangesTo w.rule change new
  pub in_it : w.number ≡ n
  pub step : HasStepBy rules p made w new
  pub added : Adds p made step.1.at step.1.term w.rule definition
  pub sought : IsSought m from w
  pub first : (v : Where) (other : TermTree)
      → v.number ≡ n → HasStepBy rules p made v other → IsSought m from v → IsBefore v w → ⊥

-- none is sought in it
abbrev pub HasNoneIn : List Rule → Program → List Made → ℕ → ℕ → List ℕ → Type 0
HasNoneIn rules p made n m from =
    (w : Where) (new : TermTree)
    → w.number ≡ n → HasStepBy rules p made w new → IsSought m from w → ⊥

-- the answer is the first step in it, or nothing where there is none
abbrev pub FindsIn
    : List Rule → Program → List Made → ℕ → ℕ → List ℕ → Option Found → Type 0
FindsIn rules p made n m from answer =
    MatchOption answer (HasNoneIn rules p made n m from)
    (λ f. IsFirstIn rules p made n m from (where_of f.at) f.change f.definition)

-- the answer is this step, in the made definition of this number
abbrev pub IsFoundIn : ℕ → Option Trail → Option Found → Type 0
IsFoundIn n found answer =
    MatchOption found (answer ≡ None)
    (λ t. MatchOption answer ⊥ (λ f. (f.at.made.number ≡ n)
    × (f.at.path.items ≡ reverse t.back.items) × (f.at.rule ≡ t.trial.rule)
    × (f.change ≡ t.trial.change) × (f.definition ≡ t.trial.definition)))

-- the step is the first of all, and this its change and what it adds
pub record IsNext (rules : List Rule) (p : Program) (made : List Made) (f : Found) : Type 0 where
  pub new : TermTree
  pub changes : ChangesTo f.at.rule f.change new
  pub is_first : IsFirst rules p made (where_of f.at) new
  pub added : Adds p made is_first.step.1.at is_first.step.1.term f.at.rule f.definition

-- the answer is the first step of all, or nothing where there is none
abbrev pub FindsNext : List Rule → Program → List Made → Option Found → Type 0
FindsNext rules p made answer =
    MatchOption answer (HasNoStep rules p made) (IsNext rules p made)

-- below the leading lambdas there is a term, and it is typed
abbrev pub LeadsToTyped : Setting → Mode → List TypeTree → TermTree → TypeTree → Type 0
LeadsToTyped s mode vars e t =
    (path : List ℕ) × (vs : List TypeTree) × (body : TermTree)
    × UnderLambdas vars e t path vs body × IsTypedAt s (spot mode true vs) body
