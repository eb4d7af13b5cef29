use Rattle.std.proofs.Common.{◌≡◌, ◌∙◌, IfOk, ap, subst}
use Rattle.chw_terms.specs.TermTree.{case_of}
use Rattle.chw_terms.specs.TermView.{alts_of}
use Rattle.chw_terms.proofs.TermMoved.{all_done}
use Rattle.flow_demanded.specs.Moves.{alt_on_arg}
use Rattle.flow_demanded.proofs.Moved.{all_on_arg}
use Rattle.flow_demanded.proofs.moves.into_case.Goals as goal

pub returns : goal.returns
returns c =
    let p = c.args.which in
    let args = c.args.args.now in
    let alts = c.args.of.now.alts.now in
    let done = all_done (alt_on_arg p args c.args.at) alts c.loop-alt.done.items c.loop-alt.alt-index c.loop-alt.invariant c.loop-alt-test.false in
    subst (λ y. IfOk c.case.result (λ e. e ≡ y))
    ((λ i. case_of (c.in_ok-on.ensures i) (alts_of (done i))) ∙ ap (case_of c.args.of.now.on.now) (all_on_arg p args c.args.at alts))
    c.case.ensures
