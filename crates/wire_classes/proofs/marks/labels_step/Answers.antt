use Rattle.std.proofs.Common.{arith}
use Rattle.wire_classes.specs.Closed.{LabelHoldsAt}
use Rattle.wire_classes.proofs.Closing.{none_told}
use Rattle.wire_classes.proofs.Marking.{labels_hold}
use borrow.Author.Count.{below_more}
use Rattle.wire_classes.proofs.marks.labels_step.Goals as goal

pub loop-w-init : goal.loop-w-init
loop-w-init c = λ p l. absurd (omega (arith, l))

pub loop-w-preserved : goal.loop-w-preserved
loop-w-preserved c =
    let P = LabelHoldsAt c.args.of.now c.args.known.now in
    below_more P c.loop-w.w c.loop-w.invariant
    (none_told c.label_step.result (P c.loop-w.w) c.in_default.not-Some c.label_step.ensures.none)

pub returns : goal.returns
returns c =
    let n = c.len-w-end.ensures in
    record {
      none = labels_hold c.args.flat.now c.args.of.now c.args.known.now c.args.values.now c.requires
          (λ p l. c.loop-w.invariant p (omega (arith, l, n, c.loop-w-test.false)));
      some = tt;
    }
