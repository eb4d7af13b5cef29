use Rattle.std.proofs.Common.{length, sym, ap, ◌∙◌}
use Rattle.chw_bits.proofs.Numbers.{length-bits_of}
use Rattle.net_sim.proofs.memory.word_of.Goals as goal

pub put_bits-requires : goal.put_bits-requires
put_bits-requires c =
    ap length c.as_slice.ensures.value ∙ sym c.len.ensures ∙ sym (length-bits_of c.len.result 0) ∙ sym (ap length c.in_ok-word.ensures)
