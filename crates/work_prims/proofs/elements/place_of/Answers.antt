use Rattle.std.proofs.Common.{◌∙◌, ◌+◌, ◌*◌, ap, sym, min, take, false, get_or, if◌then◌else◌}
use Rattle.chw_bits.specs.Bits.{number_of}
use Rattle.work_prims.proofs.Lists.{place_more, bit_more}
use Rattle.work_prims.proofs.elements.place_of.Goals as goal

pub loop-bit-preserved : goal.loop-bit-preserved
loop-bit-preserved c =
    let bits = c.args.bits.now in
    let i = c.loop-bit.bit-index in
    let last = c.args.last in
    let bit = if get_or bits i false then 1 else 0 in
    c.next_place-place.ensures
    ∙ ap (λ n. min (2 * n + bit) last) c.loop-bit.invariant
    ∙ place_more (number_of (take i bits)) last bit
    ∙ ap (λ n. min n last) (sym (bit_more bits i false c.loop-bit-test.true))
