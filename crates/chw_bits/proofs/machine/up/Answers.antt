use Rattle.std.proofs.Common.{◌%◌, ◌^◌, ap, ◌∙◌}
use Rattle.chw_bits.proofs.WordResults.{up_bits}
use Rattle.chw_bits.proofs.machine.up.Goals as goal

pub returns-clause-bits : goal.returns-clause-bits
returns-clause-bits c =
    up_bits 128 c.args.width c.args.a c.args.places c.lowest.result c.requires (c.lowest.ensures.number ∙ ap (λ n. n % 2 ^ c.args.width) c.raised.ensures)
