use Rattle.std.proofs.Common.{◌≤◌, ◌-◌, refl, sym, subst, arith}
use Rattle.std.proofs.lemmas.Result.{err_from_is_err_and}
use Rattle.chw_terms.specs.Depth.{depth}
use Rattle.chw_typing.specs.Scopes.{setting_in}
use Rattle.rewriting.specs.Origins.{origins_of}
use Rattle.rewriting.specs.Spots.{spot_of}
use Rattle.letrec_steps.specs.Local.{IsTypedHere}
use Rattle.letrec_runs.specs.Runs.{Leads}
use Rattle.letrec_runs.proofs.Begins.{begun, begun_is, typed_here}
use Rattle.letrec_runs.proofs.Ends.{made_first, made_nothing, made_once}
use Rattle.letrec_runs.proofs.run.run_sides.Goals as goal

pub returns-then-left-eq0 : goal.returns-then-left-eq0
returns-then-left-eq0 g c = (
  c.args.term.now,
  made_nothing (origins_of c.args.scene.now) (spot_of c.args.place.now) c.args.left c.args.most c.args.made.number c.args.path.now c.args.term.now c.args.trace.now.items c.args.trace.now.items
      (g.R.Looks.looks c.args.rules.now) (g.R.Looks.looks c.args.rules.now) refl refl,
  refl,
)

pub returns-then-not-is_let : goal.returns-then-not-is_let
returns-then-not-is_let g c = (
  c.args.term.now,
  made_nothing (origins_of c.args.scene.now) (spot_of c.args.place.now) c.args.left c.args.most c.args.made.number c.args.path.now c.args.term.now c.args.trace.now.items c.args.trace.now.items
      (g.R.Looks.looks c.args.rules.now) (g.R.Looks.looks c.args.rules.now) refl refl,
  refl,
)

pub returns-then-not-joins : goal.returns-then-not-joins
returns-then-not-joins g c = (
  c.args.term.now,
  made_nothing (origins_of c.args.scene.now) (spot_of c.args.place.now) c.args.left c.args.most c.args.made.number c.args.path.now c.args.term.now c.args.trace.now.items c.args.trace.now.items
      (g.R.Looks.looks c.args.rules.now) (g.R.Looks.looks c.args.rules.now) refl refl,
  refl,
)

-- nothing was traced
pub returns-in_err-trace_one : goal.returns-in_err-trace_one
returns-in_err-trace_one g c =
    let p = err_from_is_err_and c.from_residual.result c.from_residual.ensures.1 in (
      c.args.term.now,
      made_nothing (origins_of c.args.scene.now) (spot_of c.args.place.now) c.args.left c.args.most c.args.made.number c.args.path.now c.args.term.now c.args.trace.now.items c.trace_one.new.trace.items
          (g.R.Looks.looks c.args.rules.now) (g.R.Looks.looks c.args.rules.now) c.in_err-trace_one.ensures.err refl,
      rw p.1 tt,
    )

-- the letrec joined, as the trace has it
pub returns-in_err-join : goal.returns-in_err-join
returns-in_err-join g c =
    let p = err_from_is_err_and c.from_residual-in_err-join.result c.from_residual-in_err-join.ensures.1 in
    let o = origins_of c.args.scene.now in
    let at = spot_of c.args.place.now in
    let typed = typed_here o c.args.place.now (setting_in c.args.scene.now) c.args.term.now (c.settings_of_scenes.ensures.setting c.args.scene.now) c.requires.ready c.requires.typed in
    let b = begun o at c.args.most c.args.made.number c.args.path.now c.args.term.now c.args.trace.now.items c.trace_one.new.trace.items c.requires.origins typed c.requires.shallow
    (c.is_let.ensures.0 c.if-not-is_let.false) ((c.joins.ensures o).0 c.if-not-joins.false) c.in_ok-trace_one.ensures.ok in (
      b.new,
      made_once o at c.args.left c.args.most c.args.made.number c.args.path.now c.args.term.now b.new c.args.trace.now.items c.trace_one.new.trace.items
          (g.R.Looks.looks c.args.rules.now) (g.R.Looks.looks c.args.rules.now) b.leads (omega (arith, c.if-left-eq0.false)) refl,
      rw p.1 tt,
    )

pub run_in-requires-clause-typed : goal.run_in-requires-clause-typed
run_in-requires-clause-typed g c =
    let o = origins_of c.args.scene.now in
    let at = spot_of c.args.place.now in
    let typed = typed_here o c.args.place.now (setting_in c.args.scene.now) c.args.term.now (c.settings_of_scenes.ensures.setting c.args.scene.now) c.requires.ready c.requires.typed in
    let b = begun o at c.args.most c.args.made.number c.args.path.now c.args.term.now c.args.trace.now.items c.trace_one.new.trace.items c.requires.origins typed c.requires.shallow
    (c.is_let.ensures.0 c.if-not-is_let.false) ((c.joins.ensures o).0 c.if-not-joins.false) c.in_ok-trace_one.ensures.ok in
    subst (IsTypedHere o at) (sym (begun_is o at c.args.most c.args.made.number c.args.path.now c.args.term.now c.join.new.term c.args.trace.now.items c.trace_one.new.trace.items b c.in_ok-join.ensures)) b.typed

pub run_in-requires-clause-shallow : goal.run_in-requires-clause-shallow
run_in-requires-clause-shallow g c =
    let o = origins_of c.args.scene.now in
    let at = spot_of c.args.place.now in
    let typed = typed_here o c.args.place.now (setting_in c.args.scene.now) c.args.term.now (c.settings_of_scenes.ensures.setting c.args.scene.now) c.requires.ready c.requires.typed in
    let b = begun o at c.args.most c.args.made.number c.args.path.now c.args.term.now c.args.trace.now.items c.trace_one.new.trace.items c.requires.origins typed c.requires.shallow
    (c.is_let.ensures.0 c.if-not-is_let.false) ((c.joins.ensures o).0 c.if-not-joins.false) c.in_ok-trace_one.ensures.ok in
    subst (λ x. depth x ≤ c.args.most) (sym (begun_is o at c.args.most c.args.made.number c.args.path.now c.args.term.now c.join.new.term c.args.trace.now.items c.trace_one.new.trace.items b c.in_ok-join.ensures)) b.shallow

pub returns : goal.returns
returns g c =
    let o = origins_of c.args.scene.now in
    let at = spot_of c.args.place.now in
    let typed = typed_here o c.args.place.now (setting_in c.args.scene.now) c.args.term.now (c.settings_of_scenes.ensures.setting c.args.scene.now) c.requires.ready c.requires.typed in
    let b = begun o at c.args.most c.args.made.number c.args.path.now c.args.term.now c.args.trace.now.items c.trace_one.new.trace.items c.requires.origins typed c.requires.shallow
    (c.is_let.ensures.0 c.if-not-is_let.false) ((c.joins.ensures o).0 c.if-not-joins.false) c.in_ok-trace_one.ensures.ok in
    let same = begun_is o at c.args.most c.args.made.number c.args.path.now c.args.term.now c.join.new.term c.args.trace.now.items c.trace_one.new.trace.items b c.in_ok-join.ensures in
    let a = c.run_in.ensures in (
      a.0,
      made_first o at (c.args.left - 1) c.args.left c.args.most c.args.made.number c.args.path.now c.args.term.now c.join.new.term a.0 c.args.trace.now.items c.trace_one.new.trace.items c.run_in.new.trace.items
          (g.R.Looks.looks c.args.rules.now) (g.R.Looks.looks c.run_in.new.rules)
          (subst (λ x. Leads o at c.args.most c.args.made.number c.args.path.now c.args.term.now x c.args.trace.now.items c.trace_one.new.trace.items 1) (sym same) b.leads) a.1 (omega (arith, c.if-left-eq0.false)),
      a.2,
    )
