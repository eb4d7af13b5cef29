use Rattle.std.proofs.Common.{arith}
use Rattle.chw_terms.specs.TermView.{tree_of}
use Rattle.data_kinds.proofs.Reading.{spine_added}
use Rattle.data_kinds.proofs.defs.+add_defs.Goals as goal

pub add_defs-returns : goal.add_defs-returns
add_defs-returns t c =
    spine_added (tree_of c.t.inside.head) c.args.t.now c.t.inside.args.items c.deref-arg-items.result.now c.args.found.now.items c.add_head_defs.new.found.items c.loop-arg.found.items
    c.loop-arg.arg-index (omega (arith, c.loop-arg-test.false)) c.deref-arg-items.ensures.value c.t.view_is c.in_ok-add_head_defs.ensures c.loop-arg.invariant
