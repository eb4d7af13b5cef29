use Rattle.std.proofs.Common.{◌+◌}
use Rattle.std.proofs.lemmas.List.{take_rest}
use Rattle.blif_read.proofs.Copies.{nodes_next}
use Rattle.blif_read.proofs.bitnet.nodes_of.Goals as goal

pub loop-place-preserved : goal.loop-place-preserved
loop-place-preserved c =
    let l = c.loop-place in
    nodes_next c.args.all.now l.place c.index-all-place.result _ _ l.nodes.items c.put_node.new.nodes.items c.loop-place-test.true c.index-all-place.is (take_rest c.args.all.now (l.place + 1)) l.invariant c.in_ok-put_node.ensures
