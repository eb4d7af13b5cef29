-- A step keeps each body acting as its origin.
use Rattle.std.specs.Prelude.{slice_get}
use Rattle.std.proofs.Common.{◌≡◌, ◌⊎◌, inl, inr, ℕ, List, [], ◌∷◌, ◌++◌, Some, refl, sym, ap, ◌∙◌, subst}
use Rattle.chw_terms.specs.declared.program.Program.{Program}
use Rattle.chw_terms.specs.declared.rule.Rule.{Rule}
use Rattle.chw_terms.specs.declared.rule.Rule.TheVariants.{Spec}
use Rattle.chw_terms.specs.declared.scene.Made.{Made}
use Rattle.chw_terms.specs.TermTree.{TermTree}
use Rattle.chw_typing.specs.Laws.{TypedIsSound}
use Rattle.chw_typing.specs.Programs.{setting_of}
use Rattle.chw_typing.specs.Typing.{HasTypeUpTo}
use Rattle.chw_typing.specs.Paths.{with_part}
use Rattle.chw_typing.proofs.Complete.{part_complete}
use Rattle.chw_typing.proofs.ContextPlaces.{around_is_part}
use Rattle.rewriting.specs.SceneLaws.{NoMadeKeepsType}
use Rattle.rewriting.specs.Origins.{MadeOf, Origins, made_of, origin_at, origin_of}
use Rattle.rewriting.proofs.Around.{place_around}
use Rattle.rewriting.specs.Spots.{Spot}
use Rattle.rewriting.specs.Runs.{After, first_body, no_call, known, one_more, opened, Step, StepsTo}
use Rattle.rewriting.specs.Steps.{Where, HasStep, origins_in}
use Rattle.rule_types.specs.States.{AfterKeepsState, IsTypedState}
use Rattle.rule_types.proofs.States.{state_origins, place_typed}
use Rattle.made_states.specs.Laws.{AnyStepKeepsState}
use Rattle.act_rules.specs.ContextLaws.{PlugActs}
use Rattle.act_rules.specs.NameLaws.{UnfoldGlobalActs}
use Rattle.act_runs.specs.States.{StepActs, SpecialActs, TypedChain, typed_and}
use Rattle.act_runs.proofs.Agree.{origins_agree}
use Rattle.act_runs.proofs.Chains.{chain_joined}
use Rattle.act_runs.proofs.SpecialSteps.{after_keeps_origins, after_stays}
use Rattle.act_runs.specs.Laws.{BodiesAct, StepsKeepActs}
use Rattle.act_runs.proofs.First.{origins_typed, first_chain}
use Rattle.act_runs.proofs.Lists.{set_found, set_there, same_made, older_or_last}

-- the laws on which this stands
pub record RunLaws : Type 0 where
  pub sound : TypedIsSound
  pub alone : NoMadeKeepsType
  pub plug : PlugActs
  pub unfolds : UnfoldGlobalActs
  pub steps : StepActs
  pub special : SpecialActs
  pub after : AfterKeepsState

-- the made definition acts as its origin
abbrev Acts : Origins → Made → Type 0
Acts o it = TypedChain o.program it.ty (origin_of o it.body) it.origin

module _ (l : RunLaws) (p : Program) (state : List Made) (h : IsTypedState p state) (bodies : BodiesAct p state) where
  -- those that were there, and a new one
  old_act : {with_new : List Made} {at : Spot} {e : TermTree} {r : Rule} → After p state at e r with_new → IsTypedState p with_new → (m : ℕ) (it : Made) → slice_get with_new m ≡ Some it → Acts (origins_in p with_new) it
  old_act (no_call n) next m it is = bodies m it is
  old_act (known k b of) next m it is = bodies m it is
  old_act {at = at} {e = e} (one_more {it = new} b none) next m it is = by (older_or_last state (opened p new) m it is)
    where
      with_new : List Made
      with_new = state ++ opened p new ∷ []

      after : After p state at e Spec with_new
      after = one_more b none

      by : (slice_get state m ≡ Some it) ⊎ (opened p new ≡ it) → Acts (origins_in p with_new) it
      by (inl was) =
          subst (λ f. TypedChain p it.ty f it.origin)
          (sym (origins_agree (h.each m it was).body_typed.has (origin_at (origins_in p with_new)) (origin_at (origins_in p state)) (λ k t q. after_keeps_origins after k t q)))
          (bodies m it was)
      by (inr same) = first_chain l.sound l.alone l.plug l.unfolds p with_new next m it is (subst (λ (x : Made). x.body ≡ first_body p x.origin) same refl)

  -- the one that changes
  changed_acts : {with_new : List Made} {r : Rule} (w : Where) (new : TermTree) (step : HasStep p state w new) → After p state step.at step.term r with_new → r ≡ w.rule → IsTypedState p with_new → HasTypeUpTo (setting_of p) [] [] (origin_of (origins_in p with_new) (with_part step.it.body w.path new)) step.it.ty → TypedChain p step.it.ty (origin_of (origins_in p with_new) (with_part step.it.body w.path new)) step.it.origin
  changed_acts w new step (no_call other) rule next typed =
      typed_and typed (l.steps p state w new h (λ spec. other (rule ∙ spec)) step) (bodies w.number step.it step.is)
  changed_acts w new step (known m b of) rule next typed =
      chain_joined (l.special p state state w new h next (sym rule) step (known m b of)) (bodies w.number step.it step.is)
  changed_acts w new step (one_more {it = it} b none) rule next typed =
      chain_joined (l.special p state (state ++ opened p it ∷ []) w new h next (sym rule) step (one_more b none)) (bodies w.number step.it step.is)

  -- what is at the place of a step is complete, so that the new definition is typed
  next_typed : {with_new : List Made} (w : Where) (new : TermTree) (step : HasStep p state w new) → After p state step.at step.term w.rule with_new → IsTypedState p with_new
  next_typed {with_new} w new step after =
      let o = origins_in p state in
      let over = state_origins l.sound p state h in
      let each = h.each w.number step.it step.is in
      let around = place_around o (made_of step.it) step.it.body step.term w.path step.at over.sound each.body_typed step.place in
      l.after p state with_new step.at step.term new w.rule h (place_typed o (made_of step.it) step.it.body step.term w.path step.at over.sound each step.place) step.made_new
      (part_complete w.path p.datas step.it.body step.term each.body_complete (around_is_part around)) after

  pub step_keeps : (rules : List Rule) (state' : List Made) (s : Step) → IsTypedState p state' → StepsTo rules p state s state' → BodiesAct p state'
  step_keeps rules state' s typed' steps m it is =
      subst (λ (o : Origins). TypedChain p it.ty (origin_of o it.body) it.origin) (sym origins)
      (set_found (λ k x. Acts (origins_in p with_new) x) with_new w.number y (old_act steps.after next) changed m it (subst (λ ms. slice_get ms m ≡ Some it) steps.is is))
    where
      w : Where
      w = s.place

      step : HasStep p state s.place s.new
      step = steps.is_first.step.1

      with_new : List Made
      with_new = steps.with_new

      y : Made
      y = record (steps.is_first.step.1.it) { body = with_part steps.is_first.step.1.it.body s.place.path s.new }

      next : IsTypedState p steps.with_new
      next = next_typed s.place s.new steps.is_first.step.1 steps.after

      there : slice_get steps.with_new s.place.number ≡ Some steps.is_first.step.1.it
      there = after_stays steps.after s.place.number steps.is_first.step.1.it steps.is_first.step.1.is

      origins : origins_in p state' ≡ origins_in p steps.with_new
      origins =
          ap (origins_in p) steps.is
          ∙ ap (λ (ms : List MadeOf). record { program = p; made = ms }) (same_made steps.with_new s.place.number steps.is_first.step.1.it y there refl)

      y_there : slice_get state' s.place.number ≡ Some y
      y_there = ap (λ ms. slice_get ms s.place.number) steps.is ∙ set_there steps.with_new s.place.number steps.is_first.step.1.it y there

      y_typed : HasTypeUpTo (setting_of p) [] [] (origin_of (origins_in p steps.with_new) y.body) y.ty
      y_typed =
          subst (λ (o : Origins). HasTypeUpTo (setting_of p) [] [] (origin_of o y.body) y.ty) origins
          (origins_typed l.sound l.alone p state' typed' y.body y.ty (typed'.each s.place.number y y_there).body_typed)

      changed : Acts (origins_in p steps.with_new) y
      changed = changed_acts s.place s.new steps.is_first.step.1 steps.after refl next y_typed

pub steps_keep : RunLaws → AnyStepKeepsState → StepsKeepActs
steps_keep l stay rules p made made' s h steps bodies = step_keeps l p made h bodies rules made' s (stay rules p made made' s h steps) steps
