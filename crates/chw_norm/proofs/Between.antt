-- What stands between two steps of a run.
use Rattle.std.proofs.Common.{◌≡◌, inl, inr, ◌≤◌, refl, sym, ap, subst, arith, List}
use Rattle.std.proofs.Common.{length}
use Rattle.std.specs.Prelude.{IsSome}
use Rattle.chw_base.specs.declared.limits.TheConstants.{MADE_DEFINITIONS}
use Rattle.chw_terms.specs.declared.program.Program.{Program}
use Rattle.chw_terms.specs.declared.scene.Made.{Made}
use Rattle.chw_terms.specs.declared.scene.Scene.{Scene}
use Rattle.chw_terms.specs.TermTree.{TermTree}
use Rattle.chw_terms.specs.Tidy.{IsTidy}
use Rattle.chw_typing.specs.Programs.{IsTyped}
use Rattle.rewriting.specs.Origins.{made_of}
use Rattle.rewriting.specs.Typed.{IsTypedScene}
use Rattle.term_frames.specs.Signatures.{IsSignature}
use Rattle.rewriting.specs.Runs.{IsOpening, StepsTo}
use Rattle.rewriting.specs.Steps.{IsFirst, origins_in}
use Rattle.rule_types.specs.States.{IsTypedState}
use Rattle.made_states.specs.Laws.{AnyStepKeepsState}
use Rattle.trials.specs.Trials.{built}
use Rattle.opening.specs.Laws.{OpeningIsTyped}
use Rattle.norm_lines.specs.Places.{where_of}
use Rattle.step_search.specs.declared.place.Found.{Found}
use Rattle.norm_lines.specs.declared.place.StepAt.{StepAt}
use Rattle.chw_norm.specs.Bounds.{AreBounds}
use Rattle.chw_norm.specs.Running.{AreShallow}
use Rattle.chw_norm.specs.Underway.{HasSpine, IsBetweenSteps, step_of}
use Rattle.chw_norm.specs.declared.progress.Progress.{Progress}
use Rattle.chw_norm.proofs.Places.{SpineLaws, place_is_spine}

only_one : (p : Program) (made : List Made) → IsOpening p made → length made ≡ 1
only_one p made h = ap length h.2

-- before the first step
pub between_first : OpeningIsTyped → (r : Progress) → IsTidy r.program.now → IsTyped r.program.now
    → IsSignature r.program.now r.signature → IsOpening r.program.now r.made
    → AreBounds r.made r.bounds.items → IsBetweenSteps r
between_first law r tidy typed table opens bounds =
    let one = only_one r.program.now r.made opens in record {
      table = table;
      typed = law r.program.now r.made tidy typed opens;
      bounds = bounds;
      few = omega (arith, one);
      shallow = inl one;
    }

-- behind a step to shallow bodies
pub between_next : AnyStepKeepsState → (f : Found) (put : TermTree) (r r' : Progress)
    → IsBetweenSteps r → StepsTo built r.program.now r.made (step_of f put) r'.made
    → r'.program.now ≡ r.program.now → r'.signature ≡ r.signature
    → AreBounds r'.made r'.bounds.items → length r'.made ≤ MADE_DEFINITIONS → AreShallow r'.made
    → IsBetweenSteps r'
between_next keep f put r r' h step program table bounds few shallow = record {
  table = subst (λ p. IsSignature p r'.signature) (sym program)
      (subst (IsSignature r.program.now) (sym table) h.table);
  typed = subst (λ p. IsTypedState p r'.made) (sym program)
      (keep built r.program.now r.made r'.made (step_of f put) h.typed step);
  bounds = bounds;
  few = few;
  shallow = inr shallow;
}

-- the scene of the made definitions
pub scene_is_typed : (scene : Scene) (r : Progress) → scene.program.now ≡ r.program.now
    → scene.made.now ≡ r.made → IsBetweenSteps r → IsTypedScene scene
scene_is_typed scene r program made h =
    let state : IsTypedState scene.program.now scene.made.now = subst
    (λ p. IsTypedState p scene.made.now) (sym program)
    (subst (IsTypedState r.program.now) (sym made) h.typed) in
    record { tidy = state.tidy; typed = state.typed; made = state.each }

-- where a step is made a whole spine stands
pub spine_there : SpineLaws → (p : Program) (made : List Made) (at : StepAt) (new : TermTree)
    → IsFirst built p made (where_of at) new → HasSpine made at
spine_there laws p made at new first =
    let step = first.step.1 in
    record {
      it = step.it;
      is = step.is;
      spine = subst IsSome (sym (place_is_spine laws (origins_in p made) (made_of step.it)
          step.it.body step.term at.path.items step.at step.place)) refl;
    }
