use Rattle.std.proofs.Common.{arith}
use Rattle.wire_classes.specs.Closed.{CopyHoldsAt}
use Rattle.wire_classes.proofs.Closing.{none_told}
use Rattle.wire_classes.proofs.Copying.{copies_hold}
use borrow.Author.Count.{below_more}
use Rattle.wire_classes.proofs.copies.copies_step.Goals as goal

pub loop-place-init : goal.loop-place-init
loop-place-init c = λ p l. absurd (omega (arith, l))

pub loop-place-preserved : goal.loop-place-preserved
loop-place-preserved c =
    let P = CopyHoldsAt c.args.flat.now c.args.of.now c.args.known.now c.args.values.now in
    below_more P c.loop-place.place c.loop-place.invariant
    (none_told c.copy_step.result (P c.loop-place.place) c.in_default.not-Some c.copy_step.ensures.none)

pub returns : goal.returns
returns c =
    let n = c.len-place-end.ensures in
    record {
      none = copies_hold c.args.flat.now c.args.of.now c.args.known.now c.args.values.now c.requires
          (λ p l. c.loop-place.invariant p (omega (arith, l, n, c.loop-place-test.false)));
      some = tt;
    }
