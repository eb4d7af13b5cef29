use Rattle.std.proofs.Common.{get_or}
use Rattle.std.proofs.lemmas.Option.{slice_get-get_or}
use Rattle.wire_classes.proofs.marked.keys_of.Goals as goal

pub bits_at-requires : goal.bits_at-requires
bits_at-requires c =
    let wires = c.args.wires.now in
    let i = c.loop-w.w-index in
    c.requires i (get_or wires i 0) (slice_get-get_or wires i 0 c.loop-w-test.true)
