use Rattle.std.proofs.Common.{Bool, ◌*◌, refl, arith}
use Rattle.std.proofs.lemmas.Result.{err_from_is_err_and}
use Rattle.rewriting.specs.Origins.{origins_of}
use Rattle.rewriting.specs.Spots.{spot_of}
use Rattle.open_letrec.specs.Opened.{whole}
use Rattle.letrec_runs.specs.declared.rush.Rush.{Rush}
use Rattle.letrec_runs.proofs.Ends.{runs_last, runs_none, runs_on, runs_still}
use Rattle.letrec_runs.proofs.run.run_on.Goals as goal

pub loop-init : goal.loop-init
loop-init g c = record {
  runs = runs_none (origins_of c.args.scene.now) (spot_of c.args.place.now) 0 c.args.most c.args.top.made.number c.args.top.path.now 0 (whole c.args.rush.apart) c.args.trace.now.items
      c.args.trace.now.items (g.R.Looks.looks c.args.rules.now) (g.R.Looks.looks c.args.rules.now) refl refl;
  rests = c.requires.rests;
  stands = c.requires.stands;
}

pub advance-requires-clause-rests : goal.advance-requires-clause-rests
advance-requires-clause-rests g c = c.loop.invariant.rests

pub advance-requires-clause-stands : goal.advance-requires-clause-stands
advance-requires-clause-stands g c = c.loop.invariant.stands

-- memory is wanting
pub returns-in_err-next : goal.returns-in_err-next
returns-in_err-next g c =
    let p = err_from_is_err_and c.from_residual.result c.from_residual.ensures.1 in
    let o = origins_of c.args.scene.now in (
      whole c.loop.rush.apart,
      runs_still o (spot_of c.args.place.now) c.args.most c.args.top.made.number c.args.top.path.now (2 * c.loop.counter) c.args.left (whole c.args.rush.apart) (whole c.loop.rush.apart)
          c.args.trace.now.items c.loop.trace.items c.advance.new.trace.items (g.R.Looks.looks c.args.rules.now) (g.R.Looks.looks c.loop.rules) (g.R.Looks.looks c.advance.new.rules)
          c.loop.invariant.runs c.in_err-next.ensures.none c.advance.ensures.looks (omega (arith, c.loop-test.true)),
      rw p.1 tt,
    )

-- no more steps may be made
pub returns-then-not-goes_on : goal.returns-then-not-goes_on
returns-then-not-goes_on g c =
    let o = origins_of c.args.scene.now in
    let r : Rush × Bool = (c.in_ok-next.next, c.in_ok-next.goes_on) in (
      whole r.0.apart,
      runs_last o c.args.place.now c.args.most c.args.top.made.number c.args.top.path.now c.loop.counter c.args.left (whole c.args.rush.apart) c.loop.rush.apart
          c.args.trace.now.items c.loop.trace.items c.advance.new.trace.items (g.R.Looks.looks c.args.rules.now) (g.R.Looks.looks c.loop.rules) (g.R.Looks.looks c.advance.new.rules)
          r c.loop.invariant.runs c.in_ok-next.ensures.goes c.advance.ensures.looks (omega (arith, c.loop-test.true)),
      refl,
    )

pub loop-preserved : goal.loop-preserved
loop-preserved g c =
    let o = origins_of c.args.scene.now in
    let r : Rush × Bool = (c.in_ok-next.next, c.in_ok-next.goes_on) in
    record {
      runs = runs_on o c.args.place.now c.args.most c.args.top.made.number c.args.top.path.now c.loop.counter (whole c.args.rush.apart) c.loop.rush.apart
          c.args.trace.now.items c.loop.trace.items c.advance.new.trace.items (g.R.Looks.looks c.args.rules.now) (g.R.Looks.looks c.loop.rules) (g.R.Looks.looks c.advance.new.rules)
          r c.loop.invariant.runs c.in_ok-next.ensures.goes c.advance.ensures.looks c.if-not-goes_on.false;
      rests = c.in_ok-next.ensures.goes.rests;
      stands = c.in_ok-next.ensures.goes.stands;
    }

pub returns : goal.returns
returns g c =
    let o = origins_of c.args.scene.now in (
      whole c.loop.rush.apart,
      runs_still o (spot_of c.args.place.now) c.args.most c.args.top.made.number c.args.top.path.now (2 * c.loop.counter) c.args.left (whole c.args.rush.apart) (whole c.loop.rush.apart)
          c.args.trace.now.items c.loop.trace.items c.loop.trace.items (g.R.Looks.looks c.args.rules.now) (g.R.Looks.looks c.loop.rules) (g.R.Looks.looks c.loop.rules)
          c.loop.invariant.runs refl (omega arith) (omega (arith, c.loop.auto.counter-end)),
      refl,
    )
