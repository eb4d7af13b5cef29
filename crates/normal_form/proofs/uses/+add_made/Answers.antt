use Rattle.std.proofs.Common.{arith}
use Rattle.chw_terms.specs.TermView.{tree_of}
use Rattle.normal_form.proofs.Spines.{spine_added}
use Rattle.normal_form.proofs.uses.+add_made.Goals as goal

pub add_made-returns : goal.add_made-returns
add_made-returns t c =
    spine_added (tree_of c.term.inside.head) c.args.term.now c.term.inside.args.items c.deref-arg-items.result.now c.args.found.now.items c.add_head_made.new.found.items c.loop-arg.found.items
    c.loop-arg.arg-index (omega (arith, c.loop-arg-test.false)) c.deref-arg-items.ensures.value c.term.view_is c.in_ok-add_head_made.ensures c.loop-arg.invariant
