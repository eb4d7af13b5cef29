use Rattle.std.proofs.Common.{◌≡◌, ◌%◌, ◌^◌, false, take, ap, ◌∙◌, arith}
use Rattle.std.proofs.lemmas.List.{take_all}
use Rattle.chw_bits.specs.Bits.{number_of}
use Rattle.chw_bits.proofs.Numbers.{number_of_more}
use Rattle.answers.proofs.make_answer.sums.number_of.Goals as goal

pub loop-bit-preserved : goal.loop-bit-preserved
loop-bit-preserved c =
    let more = number_of_more c.args.bits.now c.loop-bit.bit-index false c.loop-bit-test.true in
    omega (arith, more)

pub returns : goal.returns
returns c =
    let bits = c.args.bits.now in
    let all : take c.loop-bit.bit-index bits ≡ bits = take_all c.loop-bit.bit-index bits (omega arith) in
    c.loop-bit.invariant ∙ ap (λ bs. number_of bs % 2 ^ 64) all
