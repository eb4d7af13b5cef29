use Rattle.std.proofs.Common.{◌≡◌, ap, subst, IfOk}
use Rattle.chw_terms.specs.TermView.{applied}
use Rattle.specialise.proofs.trial.lifting_on.Goals as goal

pub returns : goal.returns
returns c =
    subst (λ y. IfOk c.with_args.result (λ e. e ≡ y))
    (ap (λ e. applied e c.args.rest.now) c.in_ok-core.ensures) c.with_args.ensures
