use Rattle.std.proofs.Common.{refl, subst, sym}
use Rattle.std.proofs.lemmas.Result.{err_from_is_err_and}
use Rattle.rewriting.specs.Origins.{origins_of}
use Rattle.rewriting.specs.Spots.{spot_of}
use Rattle.letrec_runs.specs.Rush.{IsRestingLet}
use Rattle.letrec_runs.proofs.Ends.{runs_none}
use Rattle.letrec_runs.proofs.run.run_in.Goals as goal

pub returns-in_err-is_let_at_rest : goal.returns-in_err-is_let_at_rest
returns-in_err-is_let_at_rest g c =
    let p = err_from_is_err_and c.from_residual.result c.from_residual.ensures.1 in (
      c.args.term.now,
      runs_none (origins_of c.args.scene.now) (spot_of c.args.place.now) c.args.left c.args.most c.args.top.made.number c.args.top.path.now 1 c.args.term.now c.args.trace.now.items c.args.trace.now.items
          (g.R.Looks.looks c.args.rules.now) (g.R.Looks.looks c.args.rules.now) refl refl,
      rw p.1 tt,
    )

pub returns-then-not-branch : goal.returns-then-not-branch
returns-then-not-branch g c = (
  c.args.term.now,
  runs_none (origins_of c.args.scene.now) (spot_of c.args.place.now) c.args.left c.args.most c.args.top.made.number c.args.top.path.now 1 c.args.term.now c.args.trace.now.items c.args.trace.now.items
      (g.R.Looks.looks c.args.rules.now) (g.R.Looks.looks c.args.rules.now) refl refl,
  refl,
)

pub run_taken-requires-clause-rests : goal.run_taken-requires-clause-rests
run_taken-requires-clause-rests g c =
    let datas = c.args.scene.now.program.now.datas in
    let mode = c.args.place.now.mode in
    subst (IsRestingLet datas mode) (sym c.replace-apart.ensures.value)
    (subst (λ ds. IsRestingLet ds mode c.args.term.now) c.as_slice.ensures (c.in_ok-is_let_at_rest.ensures c.if-not-branch.false))
