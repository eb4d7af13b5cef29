use Rattle.std.proofs.Common.{◌≡◌, arith}
use Rattle.bit_blast.proofs.Adding.{added_as, nothing_added}
use Rattle.bit_blast.proofs.Latches.{held_all, held_more}
use Rattle.bit_blast.proofs.registers.held_latches.Goals as goal

pub loop-place-init : goal.loop-place-init
loop-place-init c = λ flat. nothing_added flat c.args.nodes.now.items

pub loop-place-preserved : goal.loop-place-preserved
loop-place-preserved c = λ flat.
    held_more flat c.args.nodes.now.items c.loop-place.nodes.items c.held_latch.new.nodes.items c.args.w c.args.a c.args.domain c.args.bits.now
    c.len-width.result c.loop-place.place c.at.result c.len-width.ensures c.loop-place-test.true (c.loop-place.invariant flat)
    (c.in_ok-held_latch.ensures flat) c.at.ensures

pub returns : goal.returns
returns c = λ flat.
    let same : c.loop-place.place ≡ c.len-width.result = omega arith in
    added_as flat c.args.nodes.now.items c.loop-place.nodes.items _ _
    (held_all flat c.args.w c.args.a c.args.domain c.args.bits.now c.len-width.result c.loop-place.place c.len-width.ensures same)
    (c.loop-place.invariant flat)
