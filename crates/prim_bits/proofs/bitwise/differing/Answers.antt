use Rattle.std.proofs.Common.{length, ap, arith}
use Rattle.prim_bits.proofs.Lengths.{length-bit_by_bit_le}
use Rattle.chw_bits.specs.Bitwise.{differ}
use Rattle.prim_bits.proofs.bitwise.differing.Goals as goal

pub of_list-requires : goal.of_list-requires
of_list-requires c =
    let made = length-bit_by_bit_le (differ) c.as_slice.result.now c.as_slice-2.result.now in
    omega (arith, ap length c.in_ok-bits.ensures, ap length c.as_slice.ensures.value, c.as_slice.ensures.small)
