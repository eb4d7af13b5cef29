-- The first step among places.
use Rattle.std.specs.Prelude.{◌≡◌, ◌⊎◌, ℕ, ◌<◌, List, ◌++◌, reverse}
use Rattle.std.specs.Prelude.{Option, None, MatchOption, Contains}
use Rattle.chw_terms.specs.declared.rule.Rule.{Rule}
use Rattle.chw_terms.specs.declared.scene.Made.{Made}
use Rattle.chw_terms.specs.declared.scene.Scene.{Scene}
use Rattle.chw_terms.specs.TermTree.{TermTree}
use Rattle.chw_typing.specs.Paths.{IsEarlier}
use Rattle.rewriting.specs.Origins.{Origins}
use Rattle.rewriting.specs.Active.{IsActive}
use Rattle.rewriting.specs.Spots.{Spot}
use Rattle.rewriting.specs.Instances.{HasInstance}
use Rattle.rewriting.specs.Steps.{number_of}
use Rattle.trials.specs.Trials.{Adds, ChangesTo}
use Rattle.trials.specs.declared.trial.Change.{Change}
use Rattle.step_order.specs.Sought.{IsSoughtPath}
use Rattle.step_search.specs.declared.trail.Trail.{Trail}

-- places: a path, and the spot and the term to which it leads
abbrev pub Places : Type 1
Places = List ℕ → Spot → TermTree → Type 0

-- what a rule adds where it makes something of the term at a place: a made definition, or none
abbrev pub Additions : Type 1
Additions = Spot → TermTree → Rule → Option Made → Type 0

-- to the made definitions of a scene
abbrev pub adds_to : Scene → Additions
adds_to scene = Adds scene.program.now scene.made.now

-- those of these places that are at this path
abbrev pub AtPath : Places → List ℕ → Places
AtPath s path p at e = (p ≡ path) × s p at e

-- the active places from these on
pub record From (o : Origins) (s : Places) (path : List ℕ) (at : Spot) (e : TermTree) : Type 0
  where
    pub first : List ℕ
    pub spot : Spot
    pub term : TermTree
    pub place : s first spot term
    pub rest : List ℕ
    pub active : IsActive o spot term rest at e
    pub is : path ≡ first ++ rest

-- at one of these places, which is sought, one of the rules makes this
pub record IsStepAt (rules : List Rule) (o : Origins) (s : Places) (from path : List ℕ)
    (rule : Rule) (new : TermTree) : Type 0 where
  pub at : Spot
  pub term : TermTree
  pub place : s path at term
  pub sought : IsSoughtPath path from
  pub is_rule : Contains rules rule
  pub made : HasInstance o at rule term new

-- by the path, then by the rule
abbrev pub IsBeforeThere : List ℕ → Rule → List ℕ → Rule → Type 0
IsBeforeThere p r q s = IsEarlier p q ⊎ ((p ≡ q) × (number_of r < number_of s))

-- there is none
abbrev pub HasNoStepAt : List Rule → Origins → Places → List ℕ → Type 0
HasNoStepAt rules o s from =
    (path : List ℕ) (rule : Rule) (new : TermTree) → IsStepAt rules o s from path rule new → ⊥

-- the change by the first one, and what that adds
pub record IsFirstAt (rules : List Rule) (o : Origins) (adds : Additions) (s : Places)
    (from path : List ℕ) (rule : Rule) (change : Change) (definition : Option Made) : Type 0
  where
    pub new : TermTree
    pub changes : ChangesTo rule change new
    pub it : IsStepAt rules o s from path rule new
    pub added : adds it.at it.term rule definition
    pub first : (q : List ℕ) (r : Rule) (e : TermTree)
        → IsStepAt rules o s from q r e → IsBeforeThere q r path rule → ⊥

-- the answer is the first step, or nothing where there is none
abbrev pub FindsFirst
    : List Rule → Origins → Additions → Places → List ℕ → Option Trail → Type 0
FindsFirst rules o adds s from answer =
    MatchOption answer (HasNoStepAt rules o s from)
    (λ t. IsFirstAt rules o adds s from (reverse t.back.items)
    t.trial.rule t.trial.change t.trial.definition)

-- the answer is another one, of which the path goes on from this one
abbrev pub GoesOn : List ℕ → Option Trail → Option Trail → Type 0
GoesOn path found answer =
    MatchOption found (answer ≡ None)
    (λ t. MatchOption answer ⊥ (λ u. (reverse u.back.items ≡ path ++ reverse t.back.items)
    × (u.trial ≡ t.trial)))
