use Rattle.std.proofs.Common.{◌≡◌, ◌∙◌, IfOk, ap, subst}
use Rattle.chw_terms.specs.TermTree.{case_of}
use Rattle.chw_terms.specs.TermView.{alts_of}
use Rattle.chw_terms.proofs.TermMoved.{all_done}
use Rattle.flow_functions.specs.Moves.{at_type}
use Rattle.flow_functions.proofs.Moved.{all_at_type}
use Rattle.flow_functions.proofs.cases.case_at_type.Goals as goal

pub returns : goal.returns
returns c =
    let alts = c.args.alts.now in
    let done = all_done (at_type c.args.ty.now) alts c.loop-alt.done.items c.loop-alt.alt-index c.loop-alt.invariant c.loop-alt-test.false in
    subst (λ y. IfOk c.case.result (λ e. e ≡ y))
    ((λ i. case_of (c.in_ok-on.ensures i) (alts_of (done i))) ∙ ap (case_of c.args.on.now) (all_at_type c.args.ty.now alts))
    c.case.ensures
