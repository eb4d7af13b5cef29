use Rattle.std.proofs.Common.{◌<◌, ◌+◌, ◌^◌, false, take, arith}
use Rattle.chw_bits.specs.Bits.{number_of}
use Rattle.chw_bits.proofs.Numbers.{number_of_more, number_of_take_lt, lt-pow}
use Rattle.chw_bits.proofs.hex.nibble.Goals as goal

pub overflow_mul-n : goal.overflow_mul-n
overflow_mul-n c =
    let bits = c.args.bits.now in
    let i = c.loop-bit.bit-index in
    let more = number_of_more bits i false c.loop-bit-test.true in
    let below : number_of (take (i + 1) bits) < 2 ^ 4 = lt-pow _ (i + 1) 4 (number_of_take_lt bits (i + 1)) (omega arith) in
    omega arith

pub overflow_add-n : goal.overflow_add-n
overflow_add-n c =
    let bits = c.args.bits.now in
    let i = c.loop-bit.bit-index in
    let more = number_of_more bits i false c.loop-bit-test.true in
    let below : number_of (take (i + 1) bits) < 2 ^ 4 = lt-pow _ (i + 1) 4 (number_of_take_lt bits (i + 1)) (omega arith) in
    omega arith

pub loop-bit-preserved : goal.loop-bit-preserved
loop-bit-preserved c =
    let more = number_of_more c.args.bits.now c.loop-bit.bit-index false c.loop-bit-test.true in
    omega arith

pub returns-clause-small : goal.returns-clause-small
returns-clause-small c =
    let i = c.loop-bit.bit-index in
    let below : number_of (take i c.args.bits.now) < 2 ^ 4 = lt-pow _ i 4 (number_of_take_lt c.args.bits.now i) (omega arith) in
    omega arith
