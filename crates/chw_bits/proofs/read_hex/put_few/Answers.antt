use Rattle.std.proofs.Common.{◌-◌, ◌+◌, ◌++◌, ◌∷◌, [], take, ap, ◌∙◌, arith}
use Rattle.std.proofs.lemmas.List.{take_more_set}
use Rattle.chw_bits.specs.Bits.{bit_of, bits_of}
use Rattle.chw_bits.proofs.Numbers.{bits_left}
use Rattle.chw_bits.proofs.read_hex.put_few.Goals as goal

pub loop-i-preserved : goal.loop-i-preserved
loop-i-preserved c =
    let l = c.loop-i in
    let w = c.args.count in
    let n = c.args.digit in
    let bit = c.bit_at.ensures ∙ ap (bit_of (w - 1 - l.i)) c.from.ensures in
    let next = take_more_set l.bits l.i c.bit_at.result (let same = l.auto.bits in let enough = c.requires.enough in omega arith) in
    ap (λ bits. bits ++ bits_of (w - (l.i + 1)) n) (next ∙ ap (λ b. take l.i l.bits ++ b ∷ []) bit)
    ∙ bits_left (take l.i l.bits) (bits_of w n) w l.i n c.loop-i-test.true l.invariant
