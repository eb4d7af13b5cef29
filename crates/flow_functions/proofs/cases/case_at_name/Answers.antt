use Rattle.std.proofs.Common.{◌≡◌, ◌∙◌, IfOk, ap, subst}
use Rattle.chw_terms.specs.TermMoves.{shift}
use Rattle.chw_terms.specs.TermTree.{case_of}
use Rattle.chw_terms.specs.TermView.{alts_of}
use Rattle.chw_terms.proofs.TermMoved.{all_done}
use Rattle.flow_functions.specs.Moves.{at_name}
use Rattle.flow_functions.proofs.Moved.{all_at_name}
use Rattle.flow_functions.proofs.cases.case_at_name.Goals as goal

pub returns : goal.returns
returns c =
    let alts = c.args.alts.now in
    let done = all_done at_name alts c.loop-alt.done.items c.loop-alt.alt-index c.loop-alt.invariant c.loop-alt-test.false in
    subst (λ y. IfOk c.case.result (λ e. e ≡ y))
    ((λ i. case_of (c.in_ok-on.ensures i) (alts_of (done i))) ∙ ap (case_of (shift c.args.on.now 0 1)) (all_at_name alts))
    c.case.ensures
