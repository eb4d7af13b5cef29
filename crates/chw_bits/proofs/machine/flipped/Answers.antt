use Rattle.std.proofs.Common.{◌-◌, ◌%◌, ◌^◌, ap, ◌∙◌}
use Rattle.std.proofs.Math.Nat.{mod-mod}
use Rattle.chw_bits.specs.Bits.{bits_of}
use Rattle.chw_bits.proofs.Residues.{same_low_bits}
use Rattle.chw_bits.proofs.WordBits.{flipped_bits}
use Rattle.chw_bits.proofs.machine.flipped.Goals as goal

pub returns-clause-bits : goal.returns-clause-bits
returns-clause-bits c =
    let w = c.args.width in
    let n = 2 ^ 128 - 1 - c.args.a in
    ap (bits_of w) c.lowest.ensures.number ∙ same_low_bits w (n % 2 ^ w) n (mod-mod n (2 ^ w)) ∙ flipped_bits w c.args.a c.ranges.a.fits c.requires
