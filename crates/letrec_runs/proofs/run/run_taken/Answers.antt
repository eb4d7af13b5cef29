use Rattle.std.proofs.Common.{refl}
use Rattle.std.proofs.lemmas.Result.{err_from_is_err_and}
use Rattle.rewriting.specs.Origins.{origins_of}
use Rattle.rewriting.specs.Spots.{spot_of}
use Rattle.letrec_runs.proofs.Begins.{rests_apart}
use Rattle.letrec_runs.proofs.Ends.{runs_none}
use Rattle.letrec_runs.proofs.run.run_taken.Goals as goal

pub returns-in_err-rush : goal.returns-in_err-rush
returns-in_err-rush g c =
    let p = err_from_is_err_and c.from_residual.result c.from_residual.ensures.1 in (
      c.args.term,
      runs_none (origins_of c.args.scene.now) (spot_of c.args.place.now) c.args.left c.args.most c.args.top.made.number c.args.top.path.now 1 c.args.term c.args.trace.now.items c.args.trace.now.items
          (g.R.Looks.looks c.args.rules.now) (g.R.Looks.looks c.args.rules.now) refl refl,
      rw p.1 tt,
    )

pub run_on-requires-clause-rests : goal.run_on-requires-clause-rests
run_on-requires-clause-rests g c =
    rests_apart (origins_of c.args.scene.now) (spot_of c.args.place.now) c.args.most c.args.term c.in_ok-rush.rush.apart c.take_let-group.result.0.items c.take_let-group.result.1
    c.take_let-group.ensures c.in_ok-rush.ensures.apart c.requires.typed c.requires.rests c.requires.shallow
