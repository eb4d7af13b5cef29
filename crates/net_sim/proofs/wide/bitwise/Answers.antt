use Rattle.std.proofs.Common.{◌≡◌, length, take, ap, ◌∙◌, arith}
use Rattle.std.proofs.lemmas.List.{length-set, take_all}
use Rattle.chw_bits.specs.Bitwise.{bit_by_bit}
use Rattle.net_sim.specs.Operands.{bit_of_two}
use Rattle.net_sim.proofs.BitLists.{bit_by_bit_more, length-bit_by_bit}
use Rattle.net_sim.proofs.wide.bitwise.Goals as goal

pub loop-i-preserved : goal.loop-i-preserved
loop-i-preserved c =
    let i = c.loop-i.i in
    let left = c.args.left.now in
    let right = c.args.right.now in (
      bit_by_bit_more (bit_of_two c.args.op) left right c.loop-i.room i c.made_of_bits.result (omega arith) c.requires.same (omega arith)
          c.made_of_bits.ensures c.loop-i.invariant.0,
      length-set c.loop-i.room i c.made_of_bits.result ∙ c.loop-i.invariant.1,
    )

pub returns : goal.returns
returns c =
    let left = c.args.left.now in
    let right = c.args.right.now in
    let whole = bit_by_bit (bit_of_two c.args.op) left right in
    let count = length-bit_by_bit (bit_of_two c.args.op) left right c.requires.same in
    let end : length left ≡ c.loop-i.i = omega arith in
    record {
      within = omega arith;
      same = ap (λ n. take n c.loop-i.room) end ∙ c.loop-i.invariant.0 ∙ take_all c.loop-i.i whole (omega arith);
    }
