use Rattle.std.proofs.Common.{◌<◌, ◌+◌, ◌^◌, false, take, ◌≡◌, ap, ◌∙◌, arith}
use Rattle.std.proofs.lemmas.List.{take_all}
use Rattle.chw_bits.specs.Bits.{number_of}
use Rattle.chw_bits.proofs.Numbers.{number_of_more, number_of_take_lt, lt-pow}
use Rattle.data_forms.proofs.reading.number.Goals as goal

pub overflow_mul-n : goal.overflow_mul-n
overflow_mul-n c =
    let bits = c.args.bits.now in
    let i = c.loop-bit.bit-index in
    let more = number_of_more bits i false c.loop-bit-test.true in
    let below : number_of (take (i + 1) bits) < 2 ^ 64 = lt-pow _ (i + 1) 64 (number_of_take_lt bits (i + 1)) (omega arith) in
    omega arith

pub overflow_add-n : goal.overflow_add-n
overflow_add-n c =
    let bits = c.args.bits.now in
    let i = c.loop-bit.bit-index in
    let more = number_of_more bits i false c.loop-bit-test.true in
    let below : number_of (take (i + 1) bits) < 2 ^ 64 = lt-pow _ (i + 1) 64 (number_of_take_lt bits (i + 1)) (omega arith) in
    omega arith

pub loop-bit-preserved : goal.loop-bit-preserved
loop-bit-preserved c =
    let more = number_of_more c.args.bits.now c.loop-bit.bit-index false c.loop-bit-test.true in
    omega arith

pub returns : goal.returns
returns c =
    let bits = c.args.bits.now in
    let all : take c.loop-bit.bit-index bits ≡ bits = take_all c.loop-bit.bit-index bits (omega arith) in
    let is : c.loop-bit.n ≡ number_of bits = c.loop-bit.invariant ∙ ap number_of all in
    is
