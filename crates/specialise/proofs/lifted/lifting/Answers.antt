use Rattle.std.proofs.Common.{◌≡◌, ◌∙◌, ap, subst, IfOk}
use Rattle.chw_terms.specs.TermTree.{app, ty_app}
use Rattle.specialise.proofs.lifted.lifting.Goals as goal

pub returns : goal.returns
returns c =
    let at = c.args.at in
    let on_domain = c.in_ok-on_domain.ensures ∙ ap (λ e. ty_app e at.dom.now) c.prim_of-fmap.ensures in
    let on_one = c.in_ok-on_one.ensures ∙ ap (λ e. ty_app e at.from.now) on_domain in
    let on_types = c.in_ok-on_types.ensures ∙ ap (λ e. ty_app e at.to.now) on_one in
    let on_function = c.in_ok-on_function.ensures ∙ (λ i. app (on_types i) (c.made.ensures i)) in
    subst (λ y. IfOk c.on_term.result (λ e. e ≡ y))
    (ap (λ e. app e at.signal.now) on_function) c.on_term.ensures
