use Rattle.std.proofs.Common.{ltb, ap, ◌∙◌}
use Rattle.std.specs.Char.{digit_value}
use Rattle.chw_bits.proofs.HexText.{tested_more}
use Rattle.chw_bits.proofs.read_hex.is_hex.Goals as goal

pub loop-byte-preserved : goal.loop-byte-preserved
loop-byte-preserved c =
    let test = c.is_digit-all.ensures.value ∙ ap (λ x. ltb (digit_value x) 16) c.from.ensures in
    tested_more c.args.text.now c.loop-byte.byte-index c.loop-byte.all c.is_digit-all.result c.loop-byte-test.true test c.loop-byte.invariant
