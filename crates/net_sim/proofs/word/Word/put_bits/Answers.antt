use Rattle.std.proofs.Common.{length, sym, ap, ◌∙◌}
use Rattle.chw_bits.specs.Bits.{bits_of}
use Rattle.chw_bits.proofs.RoundTrips.{bits_of-number_of}
use Rattle.net_sim.proofs.word.Word.put_bits.Goals as goal

pub returns-else-len-gt-NARROW : goal.returns-else-len-gt-NARROW
returns-else-len-gt-NARROW c =
    let bits = c.args.bits.now in
    c.put_number.ensures ∙ ap (λ k. bits_of k c.number_of_list.result) (sym c.requires)
    ∙ ap (bits_of (length bits)) c.number_of_list.ensures.number ∙ bits_of-number_of bits
