use Rattle.std.proofs.Common.{◌≡◌, ◌<◌, false, length, get_or, arith}
use mir.Val.{bool_byte}
use Rattle.chw_bits.proofs.Numbers.{number_of_more}
use Rattle.net_sim.proofs.wide.amount_of_bits.Goals as goal

pub loop-bit-preserved : goal.loop-bit-preserved
loop-bit-preserved c =
    let i = c.loop-bit.bit-index in
    let bits = c.args.bits.now in
    let within : i < length bits = omega arith in
    let more = number_of_more bits i false within in
    let bit : c.from.result ≡ bool_byte (get_or bits i false) = c.from.ensures in
    let made = c.min-n.ensures in
    omega arith
