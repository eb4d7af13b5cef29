use Rattle.chw_terms.specs.TermView.{alts_of}
use Rattle.quiet_sides.specs.Quiet.{IsProjection}
use Rattle.quiet_sides.proofs.Alternatives.{many_project}
use Rattle.quiet_sides.proofs.Truths.{never}
use Rattle.quiet_sides.proofs.choices.is_projection.Goals as goal

pub returns-in_default-2 : goal.returns-in_default-2
returns-in_default-2 c = never (IsProjection (alts_of c.args.alts.now)) (many_project c.args.alts.now c.in_default.len_at_least)
