use Rattle.std.proofs.Common.{arith}
use Rattle.wire_classes.specs.Closed.{MarkHoldsAt}
use Rattle.wire_classes.proofs.Closing.{none_told}
use Rattle.wire_classes.proofs.Marking.{marks_hold}
use borrow.Author.Count.{below_more}
use Rattle.wire_classes.proofs.marks.marks_step.Goals as goal

pub loop-place-init : goal.loop-place-init
loop-place-init c = λ p l. absurd (omega (arith, l))

pub loop-place-preserved : goal.loop-place-preserved
loop-place-preserved c =
    let P = MarkHoldsAt c.args.flat.now c.args.known.now in
    below_more P c.loop-place.place c.loop-place.invariant
    (none_told c.mark_step.result (P c.loop-place.place) c.in_default.not-Some c.mark_step.ensures.none)

pub returns : goal.returns
returns c =
    let n = c.len-place-end.ensures in
    record {
      none = marks_hold c.args.flat.now c.args.of.now c.args.known.now c.args.values.now c.requires
          (λ p l. c.loop-place.invariant p (omega (arith, l, n, c.loop-place-test.false)));
      some = tt;
    }
