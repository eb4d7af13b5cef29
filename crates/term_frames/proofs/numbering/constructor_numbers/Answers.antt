use Rattle.std.proofs.Common.{arith}
use Rattle.term_frames.proofs.Numbered.{head_next, heads_all}
use Rattle.term_frames.proofs.numbering.constructor_numbers.Goals as goal

pub loop-it-preserved : goal.loop-it-preserved
loop-it-preserved c =
    let l = c.loop-it in (
      head_next l.types c.head_number.new.types l.numbers.items c.push.new.self.items c.args.kept.now l.it-index c.in_ok-head_number.field-0 c.it-item.result _ c.loop-it-test.true c.it-item.is l.invariant.0 c.in_ok-head_number.ensures.grown c.in_ok-head_number.ensures.is c.in_ok-push.ensures.items,
      λ i t e. c.in_ok-head_number.ensures.grown i t (l.invariant.1 i t e),
    )

pub returns-clause-are : goal.returns-clause-are
returns-clause-are c = heads_all c.loop-it.types c.loop-it.numbers.items c.args.kept.now c.loop-it.it-index (omega (arith, c.loop-it-test.false)) c.loop-it.invariant.0
