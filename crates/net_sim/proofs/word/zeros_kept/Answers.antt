use Rattle.std.proofs.Common.{sym, ap, ◌∙◌}
use Rattle.net_sim.proofs.Keeping.{bits_of_zero}
use Rattle.net_sim.proofs.word.zeros_kept.Goals as goal

pub returns-clause-zeros : goal.returns-clause-zeros
returns-clause-zeros c =
    ap (λ list. list.items) c.in_ok-new-2.ensures.ok ∙ c.in_ok-bits.ensures ∙ sym (bits_of_zero c.args.width)
