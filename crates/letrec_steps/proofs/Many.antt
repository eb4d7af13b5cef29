-- Many first steps in the top of a made definition.
use Rattle.std.proofs.Common.{ℕ, List, length, map, subst}
use Rattle.chw_terms.specs.declared.program.Program.{Program}
use Rattle.chw_terms.specs.declared.rule.Rule.{Rule}
use Rattle.chw_terms.specs.declared.scene.Made.{Made}
use Rattle.chw_terms.specs.TermTree.{TermTree}
use Rattle.rewriting.specs.Runs.{RunsTo, no_more, step_and}
use Rattle.rewriting.specs.Spots.{Spot}
use Rattle.rewriting.specs.Steps.{origins_in}
use Rattle.letrec_steps.specs.Many.{LocalStep, StepsBelow, none_made, made_then, in_top}
use Rattle.letrec_steps.specs.Many.{StepsInTopRun, StepsOfTopRun}
use Rattle.letrec_steps.specs.Tops.{IsTopIn, put_in, HasNoStepBefore}
use Rattle.letrec_steps.proofs.Puts.{step_in_top_leads, top_put_back}

module _ (rules : List Rule) (p : Program) (made : List Made) (m : ℕ) (it : Made) (q : List ℕ)
    (at : Spot) (top : TermTree) (is : IsTopIn made m it q at top)
    (none : HasNoStepBefore rules p made m) where
  all_run : {x y : TermTree} {steps : List LocalStep}
      → StepsBelow rules (origins_in p made) at x steps y
      → RunsTo rules p (length steps) (put_in made m it q x) (map (in_top m q) steps)
      (put_in made m it q y)
  all_run none_made = no_more
  all_run (made_then {x = x} {s = s} here other rest) =
      step_and
      (step_in_top_leads rules p made m it q s.path at top x s.new s.rule is none here other)
      (all_run rest)

pub steps_in_top_run : StepsInTopRun
steps_in_top_run rules p made m it q at top x y steps is none here =
    all_run rules p made m it q at top is none here

pub steps_of_top_run : StepsOfTopRun
steps_of_top_run rules p made m it q at x y steps is none here =
    subst
    (λ ms. RunsTo rules p (length steps) ms (map (in_top m q) steps) (put_in made m it q y))
    (top_put_back made m it q at x is)
    (all_run rules p made m it q at x is none here)
