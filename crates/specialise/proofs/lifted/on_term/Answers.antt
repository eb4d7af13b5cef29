use Rattle.std.proofs.Common.{◌≡◌, subst, IfOk}
use Rattle.chw_terms.specs.TermTree.{app}
use Rattle.specialise.proofs.lifted.on_term.Goals as goal

pub returns : goal.returns
returns c =
    subst (λ a. IfOk c.app.result (λ e. e ≡ app c.args.term a)) c.in_ok-arg.ensures
    c.app.ensures
