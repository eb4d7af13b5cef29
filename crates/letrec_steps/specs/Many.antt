-- Many first steps at a term and below it, and the run of states that they are.
use Rattle.std.specs.Prelude.{◌≡◌, ℕ, List, [], ◌∷◌, ◌++◌, length, map}
use Rattle.chw_terms.specs.declared.program.Program.{Program}
use Rattle.chw_terms.specs.declared.rule.Rule.{Rule}
use Rattle.chw_terms.specs.declared.rule.Rule.TheVariants.{Spec}
use Rattle.chw_terms.specs.declared.scene.Made.{Made}
use Rattle.chw_terms.specs.TermTree.{TermTree}
use Rattle.chw_typing.specs.Paths.{with_part}
use Rattle.rewriting.specs.Origins.{Origins}
use Rattle.rewriting.specs.Runs.{Step, RunsTo}
use Rattle.rewriting.specs.Spots.{Spot}
use Rattle.rewriting.specs.Steps.{origins_in}
use Rattle.letrec_steps.specs.Local.{IsFirstBelow}
use Rattle.letrec_steps.specs.Tops.{IsTopIn, put_in, HasNoStepBefore}

-- a step below a term: the path to it from there, the rule, and what that makes
pub record LocalStep : Type 0 where
  pub path : List ℕ
  pub rule : Rule
  pub new : TermTree

-- these steps lead from one term to another. Each is the first at the term that those before it
-- made, and below it. None makes a definition
pub data StepsBelow (rules : List Rule) (o : Origins) (at : Spot)
    : TermTree → List LocalStep → TermTree → Type 0 where
  none_made : {x : TermTree} → StepsBelow rules o at x [] x
  made_then : {x y : TermTree} {s : LocalStep} {steps : List LocalStep}
      → IsFirstBelow rules o at x s.path s.rule s.new → (s.rule ≡ Spec → ⊥)
      → StepsBelow rules o at (with_part x s.path s.new) steps y
      → StepsBelow rules o at x (s ∷ steps) y

-- the same step of a state, in which the term is the top of the made definition of this number, at
-- this path
abbrev pub in_top : ℕ → List ℕ → LocalStep → Step
in_top m q s =
    record { place = record { number = m; path = q ++ s.path; rule = s.rule }; new = s.new }

-- many steps in a term lead from the state with the one term for its top to that with the other
abbrev pub StepsInTopRun : Type 0
StepsInTopRun =
    (rules : List Rule) (p : Program) (made : List Made) (m : ℕ) (it : Made) (q : List ℕ)
    (at : Spot) (top x y : TermTree) (steps : List LocalStep)
    → IsTopIn made m it q at top → HasNoStepBefore rules p made m
    → StepsBelow rules (origins_in p made) at x steps y
    → RunsTo rules p (length steps) (put_in made m it q x) (map (in_top m q) steps)
    (put_in made m it q y)

-- so from the state itself, where they begin at its top
abbrev pub StepsOfTopRun : Type 0
StepsOfTopRun =
    (rules : List Rule) (p : Program) (made : List Made) (m : ℕ) (it : Made) (q : List ℕ)
    (at : Spot) (x y : TermTree) (steps : List LocalStep)
    → IsTopIn made m it q at x → HasNoStepBefore rules p made m
    → StepsBelow rules (origins_in p made) at x steps y
    → RunsTo rules p (length steps) made (map (in_top m q) steps) (put_in made m it q y)
