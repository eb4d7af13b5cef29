use Rattle.std.proofs.Common.{◌+◌, length, take, get_or, ap, arith, length-append}
use Rattle.std.specs.Prelude.{flat_map}
use Rattle.chw_base.specs.declared.index.WireId.{WireId}
use Rattle.net_sim.specs.Tables.{value_in, values_in}
use Rattle.net_sim.proofs.Made.{join_more}
use Rattle.net_sim.proofs.Wiring.{joined_front}
use Rattle.net_sim.proofs.wide_step.joined.Goals as goal

pub lay-requires : goal.lay-requires
lay-requires c =
    let l = c.loop-part in
    let words = c.args.words.now in
    let parts = c.args.parts.now in
    let d : WireId = record { number = 0 } in
    let front = flat_map (λ bits. bits) (values_in words (take l.part-index parts)) in
    let bits = value_in words (get_or parts l.part-index d).number in
    let more = ap length (join_more words parts l.part-index d c.loop-part-test.true) in
    let whole = joined_front words parts (l.part-index + 1) in
    let same = ap length c.word_at-word.ensures in
    let count = l.invariant.count in
    let room = l.invariant.room in
    let enough = c.requires.enough in
    omega (arith, length-append front bits)
