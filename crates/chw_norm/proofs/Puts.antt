-- A step that is made by adding what it adds, and putting its term at its place.
use Rattle.std.proofs.Common.{◌≡◌, ◌⊎◌, inl, inr, ◌∙◌, ℕ, ◌<◌, ◌≤◌, sym, ap, subst, List, [], ◌∷◌}
use Rattle.std.proofs.Common.{◌++◌, length, set, max, Some, arith}
use Rattle.std.proofs.lemmas.Bool.{cases_lt}
use Rattle.std.specs.List.{slice_get}
use Rattle.chw_base.specs.declared.limits.TheConstants.{MADE_DEFINITIONS, MADE_DEPTH}
use Rattle.made_states.specs.Laws.{AnyStepKeepsState}
use Rattle.rewriting.specs.Runs.{StepsTo}
use Rattle.trials.specs.Trials.{built, with_new}
use Rattle.step_search.specs.declared.place.Found.{Found}
use Rattle.norm_lines.specs.declared.place.StepAt.{StepAt}
use Rattle.chw_norm.specs.Bounds.{AreBounds, IsBound}
use Rattle.step_search.specs.FoundSteps.{IsNext}
use Rattle.chw_norm.specs.Running.{AreShallow, HasDeep}
use Rattle.chw_norm.specs.Underway.{Advances, depth_of, IsBetweenSteps, IsGrown, IsPutAt, step_of}
use Rattle.chw_norm.specs.declared.progress.Progress.{Progress}
use Rattle.chw_norm.proofs.Changed.{all_shallow, bound_changed, bounds_kept, has_deep, length_kept}
use Rattle.chw_norm.proofs.Changed.{new_is_deep}
use Rattle.chw_norm.proofs.Between.{between_next}
use Rattle.chw_norm.proofs.Grown.{grown_bounds, grown_few}
use Rattle.chw_norm.proofs.Steps.{step_made}

-- the step of this state adds what it adds, and then the term is put, with this bound of the body
pub record IsMade (f : Found) (r g q : Progress) (bound : ℕ) : Type 0 where
  pub between : IsBetweenSteps r
  pub next : IsNext built r.program.now r.made f
  pub grown : IsGrown f.definition r g
  pub put : IsPutAt f.at next.new g q bound

put_in_grown : (f : Found) (r g q : Progress) (bound : ℕ) → (m : IsMade f r g q bound)
    → q.made ≡ set (with_new r.made f.definition) f.at.made.number
    (record m.put.it { body = m.put.body })
put_in_grown f r g q bound m =
    m.put.made
    ∙ ap (λ ms. set ms f.at.made.number (record m.put.it { body = m.put.body })) m.grown.made

leads : (f : Found) (r g q : Progress) (bound : ℕ) → (m : IsMade f r g q bound)
    → StepsTo built r.program.now r.made (step_of f m.next.new) q.made
leads f r g q bound m =
    step_made r.program.now r.made q.made f m.put.it m.put.body m.next
    (subst (λ ms. slice_get ms f.at.made.number ≡ Some m.put.it) m.grown.made m.put.is)
    m.put.body_is (put_in_grown f r g q bound m)

-- the step is made, and traced
pub put_is_step :
    (f : Found) (old new : List StepAt) (r g q : Progress) (bound : ℕ)
    → IsMade f r g q bound → new ≡ old ++ f.at ∷ [] → Advances f old new r q
put_is_step f old new r g q bound m traced = record {
  program = m.put.program ∙ m.grown.program;
  put = m.next.new;
  leads = leads f r g q bound m;
  traced = traced;
}

pub put_is_few : (f : Found) (r g q : Progress) (bound : ℕ) → IsMade f r g q bound
    → length q.made ≤ MADE_DEFINITIONS
put_is_few f r g q bound m =
    let kept : length q.made ≡ length g.made = ap length m.put.made
    ∙ length_kept g.made f.at.made.number (record m.put.it { body = m.put.body }) in
    omega (arith, kept, grown_few f.definition r.made g.made m.between.few m.grown.room m.grown.made)

new_bound : (f : Found) (r g q : Progress) (bound : ℕ) → (m : IsMade f r g q bound)
    → IsBound bound m.put.body
new_bound f r g q bound m =
    bound_changed g.made g.bounds.items f.at.made.number bound m.put.it m.put.body m.put.is
    (grown_bounds f.definition r g m.between m.grown) m.put.keeps

-- within the limit all bodies are shallow
pub put_is_shallow : (f : Found) (r g q : Progress) (bound : ℕ) → IsMade f r g q bound
    → depth_of f.definition ≤ MADE_DEPTH → bound ≤ MADE_DEPTH → AreShallow q.made
put_is_shallow f r g q bound m added within =
    let step = m.next.is_first.step.1 in
    let few = new_bound f r g q bound m within in
    subst AreShallow (sym (put_in_grown f r g q bound m))
    (all_shallow r.made f.at.made.number f.definition step.it
    (record m.put.it { body = m.put.body }) step.is m.between.shallow added
    (omega (arith, few, within)))

-- and over the limit one is deep: that of what is added, or the changed one
pub put_is_deep : (f : Found) (r g q : Progress) (bound : ℕ) → IsMade f r g q bound
    → MADE_DEPTH < max bound (depth_of f.definition) → HasDeep q.made
put_is_deep f r g q bound m over = by (cases_lt MADE_DEPTH bound)
  where
    by : (MADE_DEPTH < bound) ⊎ (bound ≤ MADE_DEPTH) → HasDeep q.made
    by (inl l) =
        subst HasDeep (sym m.put.made) (has_deep g.made f.at.made.number m.put.it
        (record m.put.it { body = m.put.body }) m.put.is (m.put.exact l))
    by (inr l) =
        let step = m.next.is_first.step.1 in
        subst HasDeep (sym (put_in_grown f r g q bound m))
        (new_is_deep r.made f.at.made.number f.definition step.it
        (record m.put.it { body = m.put.body }) step.is (omega (arith, over, l)))

pub put_between : AnyStepKeepsState → (f : Found) (r g q : Progress) (bound : ℕ)
    → IsMade f r g q bound → AreShallow q.made → IsBetweenSteps q
put_between keep f r g q bound m shallow =
    between_next keep f m.next.new r q m.between (leads f r g q bound m)
    (m.put.program ∙ m.grown.program) (m.put.signature ∙ m.grown.signature) bounds
    (put_is_few f r g q bound m) shallow
  where
    bounds : AreBounds q.made q.bounds.items
    bounds =
        subst (λ ms. AreBounds ms q.bounds.items) (sym m.put.made)
        (subst (AreBounds (set g.made f.at.made.number (record m.put.it { body = m.put.body })))
        (sym m.put.bounds)
        (bounds_kept g.made g.bounds.items f.at.made.number bound
        (record m.put.it { body = m.put.body })
        (grown_bounds f.definition r g m.between m.grown) (new_bound f r g q bound m)))
