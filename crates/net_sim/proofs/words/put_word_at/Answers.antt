use Rattle.std.proofs.Common.{[], length, ap, ◌∙◌}
use Rattle.net_sim.proofs.Cells.{kept_read}
use Rattle.net_sim.proofs.words.put_word_at.Goals as goal

pub returns-clause-widths : goal.returns-clause-widths
returns-clause-widths c = kept_read c.args.words.now c.args.w [] _ c.requires.wire (ap length c.copy_from.ensures ∙ c.requires.width)
