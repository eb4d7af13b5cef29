-- The body of a made definition with what a rule but SPEC makes in its place.
use Rattle.std.proofs.Common.{[]}
use Rattle.chw_types.proofs.SameLaws.{same_turned}
use Rattle.chw_typing.specs.Laws.{TypedIsSound}
use Rattle.chw_typing.proofs.Kinded.{type_kinded}
use Rattle.chw_typing.specs.Paths.{with_part}
use Rattle.rewriting.specs.SceneLaws.{NoMadeKeepsType}
use Rattle.rewriting.specs.Origins.{made_of, origin_at, origin_of, setting_at}
use Rattle.rewriting.proofs.Around.{place_around}
use Rattle.rewriting.specs.Steps.{origins_in}
use Rattle.rule_types.proofs.States.{state_origins, place_typed}
use Rattle.acts.specs.Laws.{ActsGives}
use Rattle.act_rules.specs.ContextLaws.{PlugActs}
use Rattle.act_runs.specs.States.{InstanceActs, StepActs, StepGives}
use Rattle.act_runs.proofs.States.{over_program, state_has_origins, declared_type, acts_at}

pub step_acts : TypedIsSound → NoMadeKeepsType → PlugActs → InstanceActs → StepActs
step_acts law alone plug instance p state w new h other step =
    let o = origins_in p state in
    let origins = state_has_origins law alone p state h in
    let over = state_origins law p state h in
    let it = h.each w.number step.it step.is in
    let around = place_around o (made_of step.it) step.it.body step.term w.path step.at over.sound it.body_typed step.place in
    let place = place_typed o (made_of step.it) step.it.body step.term w.path step.at over.sound it step.place in
    let part = instance p state step.at w.rule step.term new h place.vars other step.made_new in
    let whole = plug p (setting_at o).made (origin_at o) [] [] [] step.at.vars step.it.body new step.term it.body_typed.type w.path h.tidy h.typed origins.closed origins.have_types tt it.body_typed.has around part in
    acts_at p (law p h.tidy h.typed) (over_program o (type_kinded it.body_typed.has over.sound tt)) (declared_type law alone p state h w.number step.it step.is) (same_turned it.body_typed.same)
    (origin_of o (with_part step.it.body w.path new)) (origin_of o step.it.body) whole

pub step_gives : TypedIsSound → NoMadeKeepsType → StepActs → ActsGives → StepGives
step_gives law alone acts gives p state w new h other step =
    let o = origins_in p state in
    let type = declared_type law alone p state h w.number step.it step.is in
    gives p step.it.ty type.kind (origin_of o (with_part step.it.body w.path new)) (origin_of o step.it.body) h.tidy h.typed type.has (acts p state w new h other step)
