use Rattle.std.proofs.Common.{◌∙◌, ap}
use Rattle.chw_terms.specs.TermView.{alts_of}
use Rattle.chw_terms.proofs.TermMoved.{all_done}
use Rattle.flow_cases.specs.Moves.{alt_under}
use Rattle.flow_cases.proofs.Branches.{all_under}
use Rattle.flow_cases.proofs.alternatives.alts_under.Goals as goal

pub returns : goal.returns
returns c =
    let alts = c.args.alts.now in
    ap alts_of (all_done (alt_under c.args.by) alts c.loop-alt.done.items c.loop-alt.alt-index c.loop-alt.invariant c.loop-alt-test.false)
    ∙ all_under c.args.by alts
