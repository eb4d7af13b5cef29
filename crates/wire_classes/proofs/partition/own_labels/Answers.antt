use Rattle.std.proofs.Common.{◌+◌, sym, subst}
use Rattle.wire_classes.specs.Partition.{AreOwn}
use Rattle.wire_classes.proofs.Beginning.{own_more, own_none}
use Rattle.wire_classes.proofs.partition.own_labels.Goals as goal

pub loop-w-init : goal.loop-w-init
loop-w-init c = subst (AreOwn 0) (sym c.in_ok-labels.ensures.items) own_none

pub loop-w-preserved : goal.loop-w-preserved
loop-w-preserved c =
    subst (AreOwn (c.loop-w.w + 1)) (sym c.in_ok-push.ensures.items) (own_more c.loop-w.w c.loop-w.labels.items c.loop-w.invariant)
