use Rattle.std.proofs.Common.{◌≡◌, ◌∙◌, IfOk, ap, subst}
use Rattle.chw_terms.specs.TermTree.{case_of}
use Rattle.chw_terms.specs.TermView.{alts_of}
use Rattle.chw_terms.proofs.TermMoved.{all_done}
use Rattle.flow_cases.specs.Moves.{looked_at}
use Rattle.flow_cases.proofs.Branches.{all_looked_at}
use Rattle.flow_cases.proofs.cases.each_looked_at.Goals as goal

pub returns : goal.returns
returns c =
    let alts = c.args.inner.now in
    let outer = c.args.outer.now in
    let done = all_done (looked_at outer) alts c.loop-alt.done.items c.loop-alt.alt-index c.loop-alt.invariant c.loop-alt-test.false in
    subst (λ y. IfOk c.case.result (λ e. e ≡ y))
    ((λ i. case_of (c.in_ok-on.ensures i) (alts_of (done i))) ∙ ap (case_of c.args.on.now) (all_looked_at outer alts))
    c.case.ensures
