use Rattle.std.proofs.Common.{[], subst}
use Rattle.chw_layout.specs.Encodes.{Encodes}
use Rattle.chw_meaning.proofs.Once.{zero_once}
use Rattle.chw_meaning.proofs.Widths.{width_once}
use Rattle.chw_meaning.proofs.ZerosEncoded.{zero_bits, no_bits}
use Rattle.chw_meaning.proofs.laws.widths.Goals as goal

pub returns : goal.returns
returns c = record {
  width = λ datas t v w a b. width_once a b;
  zero = λ datas t a b x y. zero_once x y;
  zeros = λ datas t w z a b. zero_bits a b;
  empty = λ datas t d z w v y.
      let e = c.encodings.ensures.there datas t d 0 w v in
      let none = no_bits e.0 (c.encoding_width.ensures datas t d 0 e.0 w e.1) in
      c.encoding_injective.ensures datas t d z 0 [] w (subst (Encodes datas t d) none e.1) (zero_bits w y);
}
