use Rattle.std.proofs.Common.{◌≡◌, suc, ◌-◌, ap, ◌∙◌, arith}
use Rattle.chw_terms.specs.TermTree.{case_of}
use Rattle.chw_terms.specs.TermView.{alts_of}
use Rattle.chw_typing.specs.Paths.{child}
use Rattle.chw_typing.proofs.PartChildren.{branch_there, no_branch}
use Rattle.chw_typing.proofs.finding.scrutinee_or_branch.Goals as goal

pub returns-then-at-alts : goal.returns-then-at-alts
returns-then-at-alts c =
    let later : c.args.i ≡ suc (c.args.i - 1) = omega arith in
    ap (child (case_of c.args.on.now (alts_of c.args.alts.now))) later
    ∙ branch_there c.args.alts.now (c.args.i - 1) c.index-alts-at.result c.if-at-alts.true

pub returns-else-at-alts : goal.returns-else-at-alts
returns-else-at-alts c =
    let later : c.args.i ≡ suc (c.args.i - 1) = omega arith in
    ap (child (case_of c.args.on.now (alts_of c.args.alts.now))) later ∙ no_branch c.args.alts.now (c.args.i - 1) c.if-at-alts.false
