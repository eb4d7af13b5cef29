use Rattle.std.proofs.Common.{arith}
use Rattle.term_frames.proofs.Numbered.{definition_next, definitions_all}
use Rattle.term_frames.proofs.numbering.definition_numbers.Goals as goal

pub loop-it-preserved : goal.loop-it-preserved
loop-it-preserved c =
    let l = c.loop-it in
    definition_next l.types c.put.new.self l.numbers.items c.push.new.self.items c.args.defs.now l.it-index c.in_ok-put.field-0 c.it-item.result _ c.loop-it-test.true c.it-item.is l.invariant c.in_ok-put.ensures.grown c.in_ok-put.ensures.number c.in_ok-push.ensures.items

pub returns : goal.returns
returns c = definitions_all c.loop-it.types c.loop-it.numbers.items c.args.defs.now c.loop-it.it-index (omega (arith, c.loop-it-test.false)) c.loop-it.invariant
