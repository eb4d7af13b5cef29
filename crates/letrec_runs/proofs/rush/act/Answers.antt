use Rattle.std.proofs.Common.{◌∙◌, sym, subst, refl, IfSome}
use Rattle.chw_typing.specs.Scopes.{setting_in}
use Rattle.rewriting.specs.Origins.{origins_of}
use Rattle.rewriting.specs.Spots.{spot_of}
use Rattle.letrec_runs.specs.declared.trial.Made.{Made}
use Rattle.letrec_runs.specs.Rush.{place_in, IsResting, IsSideStep}
use Rattle.letrec_runs.proofs.Ends.{back_as_it_was, change_there, goes_back, goes_nowhere, place_put, stands_taken}
use Rattle.letrec_runs.proofs.Reached.{if_ok_to}
use Rattle.letrec_runs.proofs.Settled.{some_left}
use Rattle.letrec_runs.proofs.Views.{current_typed, ready_there, type_there}
use Rattle.letrec_runs.proofs.rush.act.Goals as goal

pub try_side-requires-clause-ready : goal.try_side-requires-clause-ready
try_side-requires-clause-ready g c =
    let o = origins_of c.args.scene.now in
    let outer = c.args.outer.now in
    let u = c.args.rush.apart in
    let v = c.take_current.new.self in
    let side = c.in_ok-side.side in
    let is = c.in_ok-side.ensures in
    let typed = current_typed o outer c.args.most v side c.requires.lets (some_left u v side is c.requires.some) (subst (IsResting o (spot_of outer) c.args.most) is c.requires.rests) in
    ready_there o outer c.args.rush.place v side (setting_in c.args.scene.now) typed (stands_taken outer c.args.rush.place u v side c.requires.stands is) (c.settings_of_scenes.ensures.setting c.args.scene.now)

pub try_side-requires-clause-typed : goal.try_side-requires-clause-typed
try_side-requires-clause-typed g c =
    let o = origins_of c.args.scene.now in
    let outer = c.args.outer.now in
    let u = c.args.rush.apart in
    let v = c.take_current.new.self in
    let side = c.in_ok-side.side in
    let is = c.in_ok-side.ensures in
    let typed = current_typed o outer c.args.most v side c.requires.lets (some_left u v side is c.requires.some) (subst (IsResting o (spot_of outer) c.args.most) is c.requires.rests) in
    type_there o outer c.args.rush.place v side (setting_in c.args.scene.now) typed (stands_taken outer c.args.rush.place u v side c.requires.stands is) (c.settings_of_scenes.ensures.setting c.args.scene.now)

pub with-requires : goal.with-requires
with-requires g c = some_left c.args.rush.apart c.take_current.new.self c.in_ok-side.side c.in_ok-side.ensures c.requires.some

pub change-requires-clause-some : goal.change-requires-clause-some
change-requires-clause-some g c = some_left c.args.rush.apart c.take_current.new.self c.in_ok-side.side c.in_ok-side.ensures c.requires.some

pub change-requires-clause-stands : goal.change-requires-clause-stands
change-requires-clause-stands g c =
    stands_taken c.args.outer.now c.args.rush.place c.args.rush.apart c.take_current.new.self c.in_ok-side.side c.requires.stands c.in_ok-side.ensures

-- nothing may be made
pub returns-in_default-clause-goes : goal.returns-in_default-clause-goes
returns-in_default-clause-goes g c =
    let o = origins_of c.args.scene.now in
    let outer = c.args.outer.now in
    let u = c.args.rush.apart in
    let v = c.take_current.new.self in
    let side = c.in_ok-side.side in
    let is = c.in_ok-side.ensures in
    let w = c.in_ok-rush.rush in
    let same = back_as_it_was u v w.apart side is c.in_ok-rush.ensures.apart in
    goes_nowhere o outer c.args.most c.args.top.made.number c.args.top.path.now u c.args.trace.now.items c.args.trace.now.items w c.requires.rests same
    (c.in_ok-rush.ensures.place ∙ stands_taken outer c.args.rush.place u v side c.requires.stands is ∙ sym (place_put outer v side)
    ∙ (λ i. place_in outer (sym c.in_ok-rush.ensures.apart i)))
    refl

pub returns-clause-goes : goal.returns-clause-goes
returns-clause-goes g c =
    let o = origins_of c.args.scene.now in
    let outer = c.args.outer.now in
    let u = c.args.rush.apart in
    let v = c.take_current.new.self in
    let side = c.in_ok-side.side in
    let is = c.in_ok-side.ensures in
    let made = c.in-Some.made in
    let stands = stands_taken outer c.args.rush.place u v side c.requires.stands is in
    let step = change_there o outer c.args.rush.place c.args.most u v side made.new made.rule c.requires.origins c.requires.lets c.requires.rests is stands (subst (λ f. IfSome f (λ (it : Made). IsSideStep o (spot_of c.args.rush.place) c.args.most side it.rule it.new)) c.in-Some.is c.in_ok-found.ensures.step) in
    if_ok_to c.change.result (λ r k. goes_back o outer c.args.most c.args.top.made.number c.args.top.path.now u v side c.args.trace.now.items c.change.new.trace.items r is (k c.args.most step)) c.change.ensures.goes
