-- What is added to the made definitions before a step is made.
use Rattle.std.proofs.Common.{◌≡◌, ◌∙◌, ℕ, ◌<◌, ◌≤◌, refl, sym, ap, subst, List, [], ◌∷◌, ◌++◌}
use Rattle.std.proofs.Common.{length, Option, Some, None, arith}
use Rattle.std.proofs.lemmas.List.{length_push}
use Rattle.std.specs.Prelude.{IfSome, Ok, Err}
use Rattle.std.specs.List.{slice_get}
use Rattle.chw_base.specs.declared.limits.TheConstants.{MADE_DEFINITIONS}
use Rattle.chw_base.specs.declared.outcome.Or.{Or}
use Rattle.chw_base.specs.declared.outcome.Or.TheVariants.{Memory, Fault}
use Rattle.chw_types.specs.Polynomials.{ended}
use Rattle.chw_terms.specs.declared.scene.Made.{Made}
use Rattle.chw_terms.specs.Depth.{depth}
use Rattle.trials.specs.Trials.{built, with_new}
use Rattle.step_search.specs.declared.place.Found.{Found}
use Rattle.norm_lines.specs.declared.place.StepAt.{StepAt}
use Rattle.chw_norm.specs.Bounds.{AreBounds}
use Rattle.step_search.specs.FoundSteps.{IsNext}
use Rattle.chw_norm.specs.Underway.{GrowEnds, HasSpine, IsBetweenSteps, IsGrown, StepEnds}
use Rattle.chw_norm.specs.declared.progress.Progress.{Progress}
use Rattle.chw_norm.specs.declared.running.RunFault.{RunFault}
use Rattle.chw_norm.proofs.Changed.{bounds_grown, still_there}
use Rattle.chw_norm.proofs.Steps.{no_room}

-- where one is added
pub one_added : (d : Option Made) (it : Made) (r r' : Progress) (deep : ℕ) → d ≡ Some it
    → r'.made ≡ r.made ++ it ∷ [] → r'.bounds.items ≡ r.bounds.items ++ deep ∷ []
    → length r.made < MADE_DEFINITIONS → r'.program.now ≡ r.program.now
    → r'.signature ≡ r.signature → deep ≡ ended (depth it.body) → GrowEnds d r r' (Ok deep)
one_added d it r r' deep is made bounds room program signature all =
    subst (λ x. GrowEnds x r r' (Ok deep)) (sym is) (
      record {
        made = made;
        bounds = bounds ∙ ap (λ k. r.bounds.items ++ k ∷ []) all;
        room = room;
        program = program;
        signature = signature;
      },
      all,
    )

-- the bounds of the grown state
pub grown_bounds : (d : Option Made) (r g : Progress) → IsBetweenSteps r → IsGrown d r g
    → AreBounds g.made g.bounds.items
grown_bounds d r g h grown =
    subst (λ ms. AreBounds ms g.bounds.items) (sym grown.made)
    (subst (AreBounds (with_new r.made d)) (sym grown.bounds)
    (bounds_grown r.made r.bounds.items d h.bounds))

-- the grown state holds no more than may be held
pub grown_few : (d : Option Made) (made made' : List Made) → length made ≤ MADE_DEFINITIONS
    → IfSome d (λ it. length made < MADE_DEFINITIONS) → made' ≡ with_new made d
    → length made' ≤ MADE_DEFINITIONS
grown_few None made made' few room is = omega (arith, few, ap length is)
grown_few (Some it) made made' few room is =
    omega (arith, room, ap length is, length_push made it)

-- a whole spine stands there too
pub grown_spine : (d : Option Made) (r g : Progress) (at : StepAt) → IsGrown d r g
    → HasSpine r.made at → HasSpine g.made at
grown_spine d r g at grown h = record {
  it = h.it;
  is = subst (λ ms. slice_get ms at.made.number ≡ Some h.it) (sym grown.made)
      (still_there r.made d at.made.number h.it h.is);
  spine = h.spine;
}

-- a step for which there is no room, or no memory, isn't made
pub not_grown : (f : Found) (trace : List StepAt) (r g r' : Progress) (d : Option Made)
    → IsNext built r.program.now r.made f → f.definition ≡ d → (x : Or RunFault)
    → GrowEnds d r g (Err x) → StepEnds f trace trace r r' (Err x)
not_grown f trace r g r' None next is (Fault fault) h = absurd h
not_grown f trace r g r' (Some it) next is (Fault fault) h =
    subst (λ q. StepEnds f trace trace r r' (Err (Fault q))) (sym h.0)
    (refl, no_room r.program.now r.made f it next is h.1)
not_grown f trace r g r' None next is Memory h = refl
not_grown f trace r g r' (Some it) next is Memory h = refl
