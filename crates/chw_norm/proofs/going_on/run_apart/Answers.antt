use Rattle.std.proofs.Common.{◌≡◌, ◌∙◌, ◌+◌, ◌≤◌, ap, arith, length, refl, subst, sym}
use Rattle.chw_base.specs.declared.limits.TheConstants.{MADE_DEPTH}
use Rattle.std.proofs.lemmas.Option.{slice_get_within}
use Rattle.std.proofs.lemmas.Result.{err_from_is_err_and}
use Rattle.chw_terms.specs.declared.scene.Scene.{Scene}
use Rattle.chw_terms.specs.Depth.{depth}
use Rattle.chw_typing.specs.Scopes.{setting_in}
use Rattle.letrec_steps.specs.Local.{IsTypedHere}
use Rattle.letrec_steps.specs.Tops.{put_at, put_in}
use Rattle.made_table.specs.Held.{IsPartSwapped}
use Rattle.rewriting.specs.Origins.{setting_at}
use Rattle.rewriting.specs.Spots.{spot_of}
use Rattle.rewriting.specs.Steps.{origins_in}
use Rattle.chw_norm.specs.GoingOn.{RanSomewhere}
use Rattle.chw_norm.proofs.Apart.{ApartLaws, IsOut, more_in_top, put_back, taken_out, top_fits}
use Rattle.chw_norm.proofs.Changed.{length_kept}
use Rattle.chw_norm.proofs.RanOn.{bound_there, has_run_on, if_ok, lets_there, made_in}
use Rattle.chw_norm.proofs.RanOn.{origins_there, ready_there, scene_setting, some_type_there}
use Rattle.chw_norm.proofs.RanOn.{TopTypes, typed_there}
use Rattle.chw_norm.proofs.going_on.run_apart.Given.{Over}
use Rattle.chw_norm.proofs.going_on.run_apart.Goals.{After-most_below-most}
use Rattle.chw_norm.proofs.going_on.run_apart.Goals as goal

laws : (g : Over) → After-most_below-most g → ApartLaws
laws g c = record {
  leads = c.tops_after_steps.ensures.leads;
  same = c.tops_after_steps.ensures.back;
  origins = c.tops_after_steps.ensures.origins;
  back = c.swapped_back.ensures;
  spines = record {
    part = c.spines_are_parts.ensures;
    behind = c.spines_of_parts.ensures;
    argument = c.spines_below_spines.ensures.arguments;
  };
}

types : (g : Over) → After-most_below-most g → TopTypes
types g c = record {
  top = c.places_below_tops.ensures.typed;
  states = c.steps_keep.ensures.origins;
}

-- the term is out of the body
swapped : (g : Over) (c : After-most_below-most g)
    → IsPartSwapped c.args.run.now.made c.args.made.number c.requires.top.it
    c.args.top.now.path.items c.args.part.now c.swap_part.new.self c.swap_part.new.other
    c.swap_part.result
swapped g c =
    let t = c.requires.top in
    subst (λ z. IsPartSwapped c.args.run.now.made c.args.made.number t.it z c.args.part.now c.swap_part.new.self c.swap_part.new.other c.swap_part.result)
    c.as_slice-path.ensures.value (c.swap_part.ensures t.it t.top.is)

out : (g : Over) (c : After-most_below-most g)
    → IsOut c.args.run.now.program.now c.args.run.now.made c.swap_part.new.self
    c.args.made.number c.requires.top.it c.args.top.now.path.items c.requires.top.term
    c.swap_part.new.other c.args.part.now c.swap_part.result
out g c =
    let r = c.args.run.now in
    let t = c.requires.top in
    taken_out (laws g c) r.program.now r.made c.swap_part.new.self c.args.made.number t.it
    c.args.top.now.path.items (spot_of c.args.top.now.place) t.term c.swap_part.new.other
    c.args.part.now c.swap_part.result t.top (swapped g c)

-- the scene of the state in which it is
abbrev scene : (g : Over) → After-most_below-most g → Scene
scene g c = record { program = c.args.run.now.program; made = c.list.result }

same : (g : Over) (c : After-most_below-most g)
    → origins_in c.args.run.now.program.now c.list.result.now
    ≡ origins_in c.args.run.now.program.now c.args.run.now.made
same g c = ap (origins_in c.args.run.now.program.now) c.list.ensures ∙ (out g c).origins

setting : (g : Over) (c : After-most_below-most g)
    → setting_at (origins_in c.args.run.now.program.now c.args.run.now.made)
    ≡ setting_in (scene g c)
setting g c =
    scene_setting c.settings_of_scenes.ensures.setting (scene g c) c.args.run.now.program.now
    c.args.run.now.made refl (same g c)

here : (g : Over) (c : After-most_below-most g)
    → IsTypedHere (origins_in c.args.run.now.program.now c.args.run.now.made)
    (spot_of c.args.top.now.place) c.requires.top.term
here g c =
    let t = c.requires.top in
    typed_there (types g c) c.args.run.now.program.now c.args.run.now.made c.args.made.number t.it
    c.args.top.now.path.items (spot_of c.args.top.now.place) t.term c.requires.between.typed t.top

pub swap_part-requires : goal.swap_part-requires
swap_part-requires g c =
    let t = c.requires.top in
    slice_get_within c.args.run.now.made c.args.made.number t.it t.top.is

pub most_below-most-requires : goal.most_below-most-requires
most_below-most-requires g c =
    let t = c.requires.top in
    let fits = top_fits c.args.run.now.made c.args.made.number t.it c.args.top.now.path.items
    (spot_of c.args.top.now.place) t.term t.top c.requires.within in
    subst (λ q. length q ≤ MADE_DEPTH) (sym c.as_slice-path.ensures.value) (omega (arith, fits))

pub run_sides-ran-requires-clause-order : goal.run_sides-ran-requires-clause-order
run_sides-ran-requires-clause-order g c =
    (c.data_types_in_order.ensures c.args.run.now.program.now.datas).0
    c.requires.between.typed.tidy.data_acyclic

pub run_sides-ran-requires-clause-ready : goal.run_sides-ran-requires-clause-ready
run_sides-ran-requires-clause-ready g c =
    let d = (goal.at.run_sides-ran-requires-clause-ready g c).After-most_below-most in
    let r = c.args.run.now in
    ready_there (scene g d) r.program.now r.made c.args.top.now.place c.requires.top.term
    (setting g d) (here g d)

pub run_sides-ran-requires-clause-origins : goal.run_sides-ran-requires-clause-origins
run_sides-ran-requires-clause-origins g c =
    let d = (goal.at.run_sides-ran-requires-clause-origins g c).After-most_below-most in
    let r = c.args.run.now in
    origins_there (types g d) (scene g d) r.program.now r.made refl (same g d)
    c.requires.between.typed

pub run_sides-ran-requires-clause-lets : goal.run_sides-ran-requires-clause-lets
run_sides-ran-requires-clause-lets g c =
    let t = c.requires.top in
    lets_there c.args.run.now.made c.args.made.number t.it c.args.top.now.path.items
    c.args.top.now.place t.term t.top

pub run_sides-ran-requires-clause-typed : goal.run_sides-ran-requires-clause-typed
run_sides-ran-requires-clause-typed g c =
    let d = (goal.at.run_sides-ran-requires-clause-typed g c).After-most_below-most in
    let r = c.args.run.now in
    some_type_there (scene g d) r.program.now r.made c.args.top.now.place c.requires.top.term
    c.swap_part.new.other (setting g d) (out g d).part_is (here g d)

pub run_sides-ran-requires-clause-shallow : goal.run_sides-ran-requires-clause-shallow
run_sides-ran-requires-clause-shallow g c =
    let d = (goal.at.run_sides-ran-requires-clause-shallow g c).After-most_below-most in
    let t = c.requires.top in
    let fits = top_fits c.args.run.now.made c.args.made.number t.it c.args.top.now.path.items
    (spot_of c.args.top.now.place) t.term t.top c.requires.within in
    let long = ap length c.as_slice-path.ensures.value in
    subst (λ e. depth e ≤ c.most_below-most.result) (sym (out g d).part_is)
    (omega (arith, fits, long, c.most_below-most.ensures))

pub swap_part-requires-2 : goal.swap_part-requires-2
swap_part-requires-2 g c =
    let d = (goal.at.swap_part-requires-2 g c).After-most_below-most in
    let r = c.args.run.now in
    let t = c.requires.top in
    let there = slice_get_within r.made c.args.made.number t.it t.top.is in
    let all = ap length (out g d).mid_is
    ∙ length_kept r.made c.args.made.number (put_at t.it c.args.top.now.path.items c.args.part.now) in
    omega (arith, there, all)

pub returns-in_err-ran : goal.returns-in_err-ran
returns-in_err-ran g c =
    let w = err_from_is_err_and c.from_residual.result c.from_residual.ensures.1 in
    let d = (goal.at.returns-in_err-ran g c).After-most_below-most in
    let r = c.args.run.now in
    let t = c.requires.top in
    let m = c.args.made.number in
    let q = c.args.top.now.path.items in
    let at = spot_of c.args.top.now.place in
    let most = c.most_below-most.result in
    let old = g.R.Looks.looks c.args.rules.now in
    let new = g.R.Looks.looks c.run_sides-ran.new.rules in
    let ran = c.run_sides-ran.ensures in
    let path = c.as_slice-path.ensures.value in
    let fits : length q + most ≡ MADE_DEPTH =
    subst (λ z. length z + most ≡ MADE_DEPTH) path c.most_below-most.ensures in
    let made = made_in (scene g d) r.program.now r.made at m q c.as_slice-path.result.now
    c.swap_part.new.other t.term ran.0 c.args.left most old new c.args.trace.now.items
    c.run_sides-ran.new.trace.items refl (same g d) (out g d).part_is path ran.1 in
    let somewhere : RanSomewhere r c.args.trace.now.items c.run_sides-ran.new.trace.items
    c.args.left old new = record {
      made = put_in r.made m t.it q ran.0;
      more =
          more_in_top (laws g d) r.program.now r.made m t.it q at t.term ran.0 most c.args.left old
          new c.args.trace.now.items c.run_sides-ran.new.trace.items t.top t.none_before
          c.requires.within (omega (arith, fits)) made;
    } in
    rw w.1 somewhere

pub returns : goal.returns
returns g c =
    let d = (goal.at.returns g c).After-most_below-most in
    let r = c.args.run.now in
    let t = c.requires.top in
    let p = r.program.now in
    let m = c.args.made.number in
    let q = c.args.top.now.path.items in
    let at = spot_of c.args.top.now.place in
    let mid = c.swap_part.new.self in
    let most = c.most_below-most.result in
    let old = g.R.Looks.looks c.args.rules.now in
    let new = g.R.Looks.looks c.run_sides-ran.new.rules in
    let ran = c.run_sides-ran.ensures in
    let path = c.as_slice-path.ensures.value in
    let fits : length q + most ≡ MADE_DEPTH =
    subst (λ z. length z + most ≡ MADE_DEPTH) path c.most_below-most.ensures in
    let made = made_in (scene g d) p r.made at m q c.as_slice-path.result.now
    c.swap_part.new.other t.term ran.0 c.args.left most old new c.args.trace.now.items
    c.run_sides-ran.new.trace.items refl (same g d) (out g d).part_is path ran.1 in
    let put = if_ok c.run_sides-ran.result _ _ c.in_ok-ran.was ran.2 in
    let last = c.swap_part-2.new.other in
    let now = c.swap_part-2.new.self in
    let done = c.swap_part-2.result in
    let now_made = put_back (laws g d) p r.made mid now m t.it q at t.term c.swap_part.new.other
    c.args.part.now ran.0 last c.swap_part.result done t.top (swapped g d)
    (λ x is. subst (λ e. IsPartSwapped mid m x q e now last done) put
    (subst (λ z. IsPartSwapped mid m x z c.run_sides-ran.new.term now last done) path
    (c.swap_part-2.ensures x is))) in
    has_run_on (laws g d) c.states_stay_typed.ensures.steps r _ m q c.args.top.now.place ran.0 most
    c.args.left old new c.exact_bound.result c.args.trace.now.items
    c.run_sides-ran.new.trace.items t c.requires.between c.requires.within (omega (arith, fits))
    made now_made
    (bound_there r.made now c.list-2.result.now m t.it c.index-list-number.result q ran.0
    c.exact_bound.result t.top.is now_made c.list-2.ensures c.exact_bound.ensures) refl refl refl
