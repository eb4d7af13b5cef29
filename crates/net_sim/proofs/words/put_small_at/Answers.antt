use Rattle.std.proofs.Common.{length, ap, ◌∙◌}
use Rattle.chw_bits.proofs.Numbers.{length-bits_of}
use Rattle.net_sim.proofs.Cells.{kept_read}
use Rattle.net_sim.proofs.words.put_small_at.Goals as goal

pub returns-clause-widths : goal.returns-clause-widths
returns-clause-widths c = kept_read c.args.words.now c.args.w _ _ c.requires.wire (ap length c.put_small.ensures ∙ length-bits_of _ c.args.n)
