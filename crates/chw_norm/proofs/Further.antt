-- Further steps from a state, each by a search of its own.
use Rattle.std.proofs.Common.{◌≡◌, inl, inr, ◌∙◌, ◌+◌, ◌*◌, ◌≤◌, ℕ, suc, refl, sym, ap, subst}
use Rattle.std.proofs.Common.{arith, List, [], ◌∷◌, ◌++◌, length, map}
use Rattle.std.proofs.lemmas.List.{append-nil, append_assoc, map-append}
use Rattle.chw_terms.specs.declared.program.Program.{Program}
use Rattle.chw_terms.specs.declared.scene.Made.{Made}
use Rattle.made_states.specs.Laws.{AnyStepIsSought, AnyStepKeepsState}
use Rattle.norm_lines.specs.declared.place.StepAt.{StepAt}
use Rattle.norm_lines.specs.Places.{where_of}
use Rattle.rewriting.specs.Runs.{Step, StepsTo}
use Rattle.rewriting.specs.Steps.{IsBefore, Where}
use Rattle.trials.specs.Trials.{built}
use Rattle.rule_types.specs.States.{IsTypedState}
use Rattle.chw_norm.specs.GoingOn.{EndsAt, places_of, SuitsAt}
use Rattle.chw_norm.specs.Running.{ShallowRun, ShallowSteps, Traces, no_step, step_and}
use Rattle.step_search.specs.Seen.{ComesBefore, IsSeen, LooksFrom}
use Rattle.chw_norm.specs.Searches.{SearchesLead, then_one}
use Rattle.step_search.proofs.Counts.{grows_once}

-- what is promised of steps of typed states
pub record StateLaws : Type 0 where
  pub keep : AnyStepKeepsState
  pub sought : AnyStepIsSought

-- a search that suits the state sees the place of the first step
before_step : (w v : Where)
    → ComesBefore w (record { number = v.number; path = v.path }) → IsBefore w v
before_step w v (inl l) = inl l
before_step w v (inr h) = inr (h.0, inl h.1)

step_is_seen : (p : Program) (made made' : List Made) (s : Step) (m : ℕ) (from : List ℕ)
    → StepsTo built p made s made' → SuitsAt p made m from
    → IsSeen built p made m from (record { number = s.place.number; path = s.place.path })
step_is_seen p made made' s m from leads suits =
    let step = leads.is_first.step in record {
      active = record {
        it = step.1.it;
        is = step.1.is;
        at = step.1.at;
        term = step.1.term;
        place = step.1.place;
      };
      sought = suits s.place s.new step;
      none_before = λ w new h sought before.
          leads.is_first.first w new h (before_step w s.place before);
    }

step_is_looked_for : (p : Program) (made made' : List Made) (s : Step) (m : ℕ) (from : List ℕ)
    (n k : ℕ) → StepsTo built p made s made' → SuitsAt p made m from → k ≤ n + 21
    → LooksFrom built p made m from n k
step_is_looked_for p made made' s m from n k leads suits l =
    grows_once (length built) (IsSeen built p made m from) n k
    (record { number = s.place.number; path = s.place.path })
    (step_is_seen p made made' s m from leads suits) l

-- each further step is led to by a search from the place of the one before
suits_next_place : StateLaws → (p : Program) (made made' : List Made) (s : Step)
    → IsTypedState p made → StepsTo built p made s made'
    → SuitsAt p made' s.place.number s.place.path
suits_next_place laws p made made' s typed leads v new h =
    laws.sought built p made made' s v typed leads (new, h)

one_more_in_all : (a b n k : ℕ) → b ≡ a + 21 → k ≡ suc n → b + 21 * n ≡ a + 21 * k
one_more_in_all a b n k is more = omega (arith, is, more)

pub searches_further : StateLaws → {p : Program} {opening made made' : List Made} {before : ℕ}
    {more : List Step} → (steps : List Step) (m : ℕ) (from : List ℕ) (now : ℕ)
    → SearchesLead built p opening before steps made m from now
    → SuitsAt p made m from → IsTypedState p made → ShallowSteps built p made more made'
    → (m' : ℕ) (from' : List ℕ) → EndsAt m from (places_of more) m' from'
    → SearchesLead built p opening before (steps ++ more) made' m' from' (now + 21 * length more)
searches_further laws {p} {opening} {before = before} steps m from now h suits typed (no_step {made = made}) m' from' ends =
    let same : now ≡ now + 21 * 0 = omega arith in
    subst (λ ss. SearchesLead built p opening before ss made m' from' (now + 21 * 0))
    (sym (append-nil steps))
    (subst (λ n. SearchesLead built p opening before steps made n from' (now + 21 * 0)) (sym ends.0)
    (subst (λ q. SearchesLead built p opening before steps made m q (now + 21 * 0)) (sym ends.1)
    (subst (SearchesLead built p opening before steps made m from) same h)))
searches_further laws {p} {opening} {made' = last} {before = before} steps m from now h suits typed
    (step_and {made = made} {made' = next} {s = s} {steps = more} leads within rest) m' from' ends =
    let again : SearchesLead built p opening before ((steps ++ s ∷ []) ++ more) last m' from'
    (now + 21 + 21 * length more) =
    searches_further laws (steps ++ s ∷ []) s.place.number s.place.path (now + 21)
    (then_one h (step_is_looked_for p made next s m from now (now + 21) leads suits (omega arith))
    leads)
    (suits_next_place laws p made next s typed leads)
    (laws.keep built p made next s typed leads) rest m' from' ends in
    subst (λ ss. SearchesLead built p opening before ss last m' from' (now + 21 * suc (length more)))
    (append_assoc steps (s ∷ []) more)
    (subst (SearchesLead built p opening before ((steps ++ s ∷ []) ++ more) last m' from')
    (one_more_in_all now (now + 21) (length more) (suc (length more)) refl refl) again)

-- the state to which they lead is typed, and a search at the place of the last one suits it
pub typed_further : AnyStepKeepsState → {p : Program} {made made' : List Made} {more : List Step}
    → IsTypedState p made → ShallowSteps built p made more made' → IsTypedState p made'
typed_further keep typed no_step = typed
typed_further keep {p = p} typed (step_and {made = made} {made' = next} {s = s} leads within rest) =
    typed_further keep (keep built p made next s typed leads) rest

pub suits_further : StateLaws → {p : Program} {made made' : List Made} {more : List Step}
    → (m : ℕ) (from : List ℕ) → SuitsAt p made m from → IsTypedState p made
    → ShallowSteps built p made more made'
    → (m' : ℕ) (from' : List ℕ) → EndsAt m from (places_of more) m' from'
    → SuitsAt p made' m' from'
suits_further laws {p} m from suits typed (no_step {made = made}) m' from' ends =
    subst (λ n. SuitsAt p made n from') (sym ends.0)
    (subst (λ q. SuitsAt p made m q) (sym ends.1) suits)
suits_further laws {p = p} m from suits typed
    (step_and {made = made} {made' = next} {s = s} leads within rest) m' from' ends =
    suits_further laws s.place.number s.place.path (suits_next_place laws p made next s typed leads)
    (laws.keep built p made next s typed leads) rest m' from' ends

-- they end somewhere
pub ends_somewhere : (m : ℕ) (from : List ℕ) (ws : List Where)
    → (m' : ℕ) × (from' : List ℕ) × EndsAt m from ws m' from'
ends_somewhere m from [] = (m, from, (refl, refl))
ends_somewhere m from (w ∷ ws) = ends_somewhere w.number w.path ws

-- steps and further ones
pub steps_joined : {p : Program} {made made' made'' : List Made} {steps more : List Step}
    → ShallowSteps built p made steps made' → ShallowSteps built p made' more made''
    → ShallowSteps built p made (steps ++ more) made''
steps_joined no_step more = more
steps_joined (step_and leads within rest) more = step_and leads within (steps_joined rest more)

pub run_joined : {p : Program} {made made' : List Made} {steps more : List Step}
    → ShallowRun built p steps made → ShallowSteps built p made more made'
    → ShallowRun built p (steps ++ more) made'
run_joined run more =
    record { opening = run.opening; opens = run.opens; runs = steps_joined run.runs more }

pub traces_joined : (old mid new : List StepAt) (steps more : List Step)
    → Traces old mid steps → Traces mid new more → Traces old new (steps ++ more)
traces_joined old mid new steps more h k = record {
  added = h.added ++ k.added;
  traced = k.traced ∙ ap (λ (t : List StepAt). t ++ k.added) h.traced
      ∙ append_assoc old h.added k.added;
  places = map-append where_of h.added k.added
      ∙ ap (λ (ws : List Where). ws ++ map where_of k.added) h.places
      ∙ ap (λ (ws : List Where). map (λ (s : Step). s.place) steps ++ ws) k.places
      ∙ sym (map-append (λ (s : Step). s.place) steps more);
}
