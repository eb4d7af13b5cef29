-- A step by the rule that makes definitions leads from a typed state to a typed one.
use Rattle.std.proofs.Common.{◌≡◌, ◌∙◌, ◌⊎◌, ℕ, sym, ap, subst, inl, inr}
use Rattle.std.proofs.Common.{List, ◌++◌, map, set}
use Rattle.chw_terms.specs.Tidy.{IsTidy}
use Rattle.chw_terms.specs.declared.program.Program.{Program}
use Rattle.chw_terms.specs.declared.rule.Rule.{Rule}
use Rattle.chw_terms.specs.declared.rule.Rule.TheVariants.{Spec}
use Rattle.chw_terms.specs.declared.scene.Made.{Made}
use Rattle.chw_typing.specs.Laws.{TypedIsSound}
use Rattle.chw_typing.specs.Programs.{IsTyped}
use Rattle.chw_typing.proofs.Complete.{part_complete}
use Rattle.chw_typing.proofs.ContextPlaces.{around_is_part}
use Rattle.chw_typing.specs.Paths.{with_part}
use Rattle.rewriting.specs.SceneLaws.{NamedIsTermKind}
use Rattle.rewriting.specs.Origins.{made_of}
use Rattle.rewriting.proofs.Around.{place_around}
use Rattle.rewriting.specs.Instances.{HasInstance}
use Rattle.rewriting.specs.Runs.{After, Run, RunsTo, Step, StepsTo, no_more, none_left, step_and}
use Rattle.rewriting.specs.Steps.{origins_in}
use Rattle.rule_types.proofs.Instances.{instances_keep_complete}
use Rattle.rule_types.proofs.NewState.{after_typed}
use Rattle.rule_types.proofs.States.{body_changed, place_typed, state_changed, state_origins, steps_keep}
use Rattle.rule_types.specs.States.{IsTypedState}
use Rattle.opening.specs.Laws.{OpeningIsTyped}
use Rattle.made_states.proofs.Made.{IsThere, after_more, body_named, found_first, origins_alike, spec_or_other}
use Rattle.made_states.proofs.Places.{place_seen}
use Rattle.made_states.proofs.Written.{instance_keeps}

-- a step, where its rule is known
spec_step : TypedIsSound → NamedIsTermKind → (rules : List Rule) (p : Program) (made made' more : List Made) (s : Step) → IsTypedState p made → s.place.rule ≡ Spec → (steps : StepsTo rules p made s made') → steps.with_new ≡ made ++ more → IsTypedState p made'
spec_step sound law rules p made made' more s h is steps with_more =
    let step = steps.is_first.step.1 in
    let number = s.place.number in
    let path = s.place.path in
    let o = origins_in p made in
    let later_o = origins_in p (made ++ more) in
    let w = state_origins sound p made h in
    let of = made_of step.it in
    let typed = h.each number step.it step.is in
    let place = place_typed o of step.it.body step.term path step.at w.sound typed step.place in
    let around = place_around o of step.it.body step.term path step.at w.sound typed.body_typed step.place in
    let complete = part_complete path p.datas step.it.body step.term typed.body_complete (around_is_part around) in
    let instance = subst (λ r. HasInstance o step.at r step.term s.new) is step.made_new in
    let after = subst (After p made step.at step.term Spec) with_more (subst (λ r. After p made step.at step.term r steps.with_new) is steps.after) in
    let later = after_typed sound law p made (made ++ more) step.at step.term s.new Spec h place instance complete after in
    let found = found_first made more number step.it step.is in
    let place_then = place_seen p (map made_of made) (map made_of (made ++ more)) (IsThere made) (origins_alike made more) of step.it.body step.term path step.at (body_named p made h number step.it step.is) step.place in
    let sound_then = (state_origins sound p (made ++ more) later).sound in
    let changed = body_changed later_o of step.it.body step.term s.new path step.at sound_then (later.each number step.it found) place_then
    (instance_keeps sound law p made more step.at h later place complete instance after) (instances_keep_complete o step.at w place instance) in
    let y = record step.it { body = with_part step.it.body path s.new } in
    let same : set (made ++ more) number y ≡ made' = ap (λ ms. set ms number y) (sym with_more) ∙ sym steps.is in
    subst (IsTypedState p) same (state_changed p (made ++ more) number step.it (with_part step.it.body path s.new) later found changed)

pub spec_keeps : TypedIsSound → NamedIsTermKind → (rules : List Rule) (p : Program) (made made' : List Made) (s : Step) → IsTypedState p made → s.place.rule ≡ Spec → StepsTo rules p made s made' → IsTypedState p made'
spec_keeps sound law rules p made made' s h is steps =
    let more = after_more steps.after in
    spec_step sound law rules p made made' more.0 s h is steps more.1

pub any_step_keeps : TypedIsSound → NamedIsTermKind → (rules : List Rule) (p : Program) (made made' : List Made) (s : Step) → IsTypedState p made → StepsTo rules p made s made' → IsTypedState p made'
any_step_keeps sound law rules p made made' s h steps = by (spec_or_other steps.after)
  where
    by : (s.place.rule ≡ Spec) ⊎ (s.place.rule ≡ Spec → ⊥) → IsTypedState p made'
    by (inl is) = spec_keeps sound law rules p made made' s h is steps
    by (inr other) = steps_keep sound rules p made made' s h other steps

-- and many steps
from_state : TypedIsSound → NamedIsTermKind → (rules : List Rule) (p : Program) {n : ℕ} {made made' : List Made} {steps : List Step} → RunsTo rules p n made steps made' → IsTypedState p made → IsTypedState p made'
from_state sound law rules p no_more h = h
from_state sound law rules p (none_left none) h = h
from_state sound law rules p (step_and {made = made} {made' = made'} {s = s} first rest) h =
    from_state sound law rules p rest (any_step_keeps sound law rules p made made' s h first)

pub runs_typed : TypedIsSound → NamedIsTermKind → (rules : List Rule) (p : Program) (n : ℕ) (made made' : List Made) (steps : List Step) → IsTypedState p made → RunsTo rules p n made steps made' → IsTypedState p made'
runs_typed sound law rules p n made made' steps h runs = from_state sound law rules p runs h

pub run_typed : TypedIsSound → NamedIsTermKind → OpeningIsTyped → (rules : List Rule) (p : Program) (n : ℕ) (steps : List Step) (made : List Made) → IsTidy p → IsTyped p → Run rules p n steps made → IsTypedState p made
run_typed sound law opening rules p n steps made tidy typed run =
    from_state sound law rules p run.runs (opening p run.opening tidy typed run.opens)
