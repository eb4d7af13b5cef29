use Rattle.std.proofs.Common.{refl}
use Rattle.wave_read.proofs.DistinctCodes.{code_again, codes_declared, codes_distinct}
use Rattle.wave_read.proofs.rules.codes_in.Goals as goal

pub returns-then-not-branch-clause-fault : goal.returns-then-not-branch-clause-fault
returns-then-not-branch-clause-fault c =
    let l = c.loop-it in
    code_again c.args.declared.now l.it-index _ _ l.codes c.in_ok-declare.field-0 c.loop-it-test.true refl l.invariant.codes l.invariant.distinct c.in_ok-declare.ensures.is_new c.if-not-branch.true

pub loop-it-preserved : goal.loop-it-preserved
loop-it-preserved c =
    let l = c.loop-it in
    record {
      codes = codes_declared c.args.declared.now l.it-index _ _ l.codes c.declare.new.self c.in_ok-declare.field-0 c.loop-it-test.true refl l.invariant.codes c.in_ok-declare.ensures.is_new
          c.if-not-branch.false c.in_ok-declare.ensures.names;
      distinct = codes_distinct l.codes c.declare.new.self _ c.in_ok-declare.field-0 l.invariant.distinct c.in_ok-declare.ensures.is_new c.if-not-branch.false c.in_ok-declare.ensures.names;
    }
