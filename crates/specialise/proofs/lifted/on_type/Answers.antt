use Rattle.std.proofs.Common.{◌≡◌, subst, IfOk}
use Rattle.chw_terms.specs.TermTree.{ty_app}
use Rattle.specialise.proofs.lifted.on_type.Goals as goal

pub returns : goal.returns
returns c =
    subst (λ t. IfOk c.ty_app.result (λ e. e ≡ ty_app c.args.term t)) c.in_ok-ty.ensures
    c.ty_app.ensures
