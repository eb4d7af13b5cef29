use Rattle.std.proofs.Common.{◌∙◌, ap}
use Rattle.chw_terms.specs.TermView.{alts_of}
use Rattle.chw_terms.proofs.TermMoved.{all_done}
use Rattle.work_operands.specs.Named.{alt_under_one}
use Rattle.work_operands.proofs.CasesAndVectors.{alts_under}
use Rattle.work_operands.proofs.parts.alts_under.Goals as goal

pub returns : goal.returns
returns c =
    let alts = c.args.alts.now in
    ap alts_of
    (all_done alt_under_one alts c.loop-alt.made.items c.loop-alt.alt-index c.loop-alt.invariant
    c.loop-alt-test.false) ∙ alts_under alts
