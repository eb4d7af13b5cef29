use Rattle.chw_terms.specs.TermView.{alts_of}
use Rattle.rewriting.specs.Shapes.{IsDefaultOrNone}
use Rattle.quiet_sides.proofs.Alternatives.{many_default}
use Rattle.quiet_sides.proofs.Truths.{never}
use Rattle.quiet_sides.proofs.choices.is_default_or_none.Goals as goal

pub returns-in_default : goal.returns-in_default
returns-in_default c = never (IsDefaultOrNone (alts_of c.args.alts.now)) (many_default c.args.alts.now c.in_default.len_at_least)
