-- What is promised of the steps of a state after a step.
use Rattle.std.specs.Prelude.{◌≡◌, ◌⊎◌, ℕ, List, length}
use Rattle.chw_terms.specs.declared.program.Program.{Program}
use Rattle.chw_terms.specs.declared.rule.Rule.{Rule}
use Rattle.chw_terms.specs.declared.rule.Rule.TheVariants.{Spec}
use Rattle.chw_terms.specs.declared.scene.Made.{Made}
use Rattle.chw_terms.specs.TermTree.{TermTree}
use Rattle.chw_typing.specs.Paths.{with_part}
use Rattle.rewriting.specs.Origins.{MadeOf, Origins}
use Rattle.rewriting.specs.Active.{IsPlaceOf}
use Rattle.rewriting.specs.Spots.{Spot}
use Rattle.rewriting.specs.Runs.{Step, StepsTo}
use Rattle.rewriting.specs.Steps.{Where, HasStepBy}
use Rattle.step_order.specs.Sought.{IsSought, IsSoughtPath}

-- an active place of a body in which an active place has got another term is sought from that place
-- on, or it was active before, with the same term
abbrev pub PlacesStayBehind : Type 0
PlacesStayBehind =
    (o : Origins) (it : MadeOf) (body x y new : TermTree) (path q : List ℕ) (at at' : Spot)
    → IsPlaceOf o it body path at x
    → IsPlaceOf o it (with_part body path new) q at' y
    → IsSoughtPath q path ⊎ IsPlaceOf o it body q at' y

-- only the rule of made definitions adds one
abbrev pub OtherRulesAddNone : Type 0
OtherRulesAddNone =
    (rules : List Rule) (p : Program) (made made' : List Made) (s : Step)
    → StepsTo rules p made s made' → (s.place.rule ≡ Spec → ⊥) → length made' ≡ length made

-- a step after one that adds no made definition is sought from the place of that one on, or it was
-- possible before, with the same new term
abbrev pub StepsStayBehind : Type 0
StepsStayBehind =
    (rules : List Rule) (p : Program) (made made' : List Made) (s : Step)
    (v : Where) (new : TermTree)
    → StepsTo rules p made s made' → length made' ≡ length made
    → HasStepBy rules p made' v new
    → IsSought s.place.number s.place.path v ⊎ HasStepBy rules p made v new

-- so, since that one was the first, each is sought from there on
abbrev pub StepsAreSought : Type 0
StepsAreSought =
    (rules : List Rule) (p : Program) (made made' : List Made) (s : Step)
    (v : Where) (new : TermTree)
    → StepsTo rules p made s made' → length made' ≡ length made
    → HasStepBy rules p made' v new
    → IsSought s.place.number s.place.path v
