use Rattle.std.proofs.Common.{◌∙◌, subst, arith, IfSome}
use Rattle.std.proofs.lemmas.Result.{err_from_is_err_and}
use Rattle.chw_norm.specs.GoingOn.{IsAtTop}
use Rattle.chw_norm.proofs.Lasts.{few_traced, no_further, nowhere, somewhere, StandsBehind, went_on}
use Rattle.chw_norm.proofs.going_on.go_on.Goals as goal

pub returns-in_err-top : goal.returns-in_err-top
returns-in_err-top g c =
    let w = err_from_is_err_and c.from_residual.result c.from_residual.ensures.1 in
    rw w.1
    (nowhere c.args.run.now c.args.trace.now.items c.args.left (g.R.Looks.looks c.args.rules.now))

pub returns-in_default : goal.returns-in_default
returns-in_default g c =
    no_further c.args.run.now c.args.finder.now c.args.trace.now.items c.args.left
    (g.R.Looks.looks c.args.rules.now) c.requires.between

pub run_at-requires-clause-top : goal.run_at-requires-clause-top
run_at-requires-clause-top g c =
    subst (λ o. IfSome o (λ t. IsAtTop c.args.run.now c.args.finder.now.made.number t.path.items t.place))
    c.in-Some.is c.in_ok-top.ensures

pub returns-in_err-stand_at_last : goal.returns-in_err-stand_at_last
returns-in_err-stand_at_last g c =
    let w = err_from_is_err_and c.from_residual-in_err-stand_at_last.result
    c.from_residual-in_err-stand_at_last.ensures.1 in
    rw w.1
    (somewhere c.args.run.now c.run_at.new.run c.args.trace.now.items
    c.run_at.new.trace.items c.args.left (g.R.Looks.looks c.args.rules.now)
    (g.R.Looks.looks c.run_at.new.rules) c.in_ok-run_at.ensures)

pub left_after-requires : goal.left_after-requires
left_after-requires g c =
    let few = few_traced c.args.run.now c.run_at.new.run c.args.trace.now.items
    c.run_at.new.trace.items c.args.left (g.R.Looks.looks c.args.rules.now)
    (g.R.Looks.looks c.run_at.new.rules) c.in_ok-run_at.ensures in
    omega (
      arith,
      few.0,
      few.1,
      c.len-before.ensures,
      c.args.trace.now.ok.0,
      c.len.ensures,
      c.run_at.new.trace.ok.0,
    )

pub returns : goal.returns
returns g c =
    went_on c.args.run.now c.run_at.new.run c.args.finder.now c.stand_at_last.new.finder
    c.args.trace.now.items c.run_at.new.trace.items c.args.left c.left_after.result
    (g.R.Looks.looks c.args.rules.now) (g.R.Looks.looks c.run_at.new.rules) c.len-before.result
    c.in_ok-run_at.ensures
    (subst (λ ts. StandsBehind c.args.finder.now c.stand_at_last.new.finder ts c.len-before.result)
    c.as_slice.ensures.value c.in_ok-stand_at_last.ensures)
    (c.len-before.ensures ∙ c.args.trace.now.ok.0)
    (omega (arith, c.left_after.ensures, c.len.ensures, c.run_at.new.trace.ok.0))
