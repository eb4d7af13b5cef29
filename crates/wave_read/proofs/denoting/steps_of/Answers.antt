use Rattle.std.proofs.Common.{sym, ap, ◌∙◌, subst}
use Rattle.wave_read.specs.Rules.{HaveWidths}
use Rattle.wave_text.specs.VcdText.{all_changes}
use Rattle.wave_read.proofs.Timing.{changes_of_times}
use Rattle.wave_read.proofs.denoting.steps_of.Goals as goal

pub steps_made-requires-clause-widths : goal.steps_made-requires-clause-widths
steps_made-requires-clause-widths c =
    subst (HaveWidths c.args.table.now)
    (ap all_changes (sym c.parts.ensures.times) ∙ changes_of_times c.parts.result.0.now c.parts.result.1.now c.parts.ensures.count) c.requires
