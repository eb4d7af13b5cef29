use Rattle.std.proofs.Common.{length, ap, ◌∙◌}
use Rattle.chw_bits.specs.Bits.{number_of, bits_of}
use Rattle.chw_bits.specs.Hex.{digits_at}
use Rattle.chw_bits.proofs.RoundTrips.{all-hex_of, hex_digits-HasWidth, value-hex_digits, bits_of-number_of}
use Rattle.chw_bits.proofs.laws.digits_read_back.Goals as goal

pub returns : goal.returns
returns c =
    record {
      digits = λ bits. all-hex_of (digits_at (length bits)) (number_of bits);
      width = hex_digits-HasWidth;
      same = λ bits. ap (λ n. bits_of (length bits) n) (value-hex_digits bits) ∙ bits_of-number_of bits;
    }
