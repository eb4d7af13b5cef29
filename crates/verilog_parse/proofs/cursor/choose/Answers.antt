use Rattle.std.proofs.Common.{◌≡◌, max, arith}
use Rattle.verilog_parse.proofs.Taken.{within}
use Rattle.verilog_parse.specs.Slots.{tokens_in}
use Rattle.verilog_parse.proofs.Chosen.{tried_next}
use Rattle.verilog_parse.proofs.cursor.choose.Goals as goal
use Rattle.verilog_parse.proofs.cursor.choose.Goals.{then-n-longest, else-n-longest}

pub loop-row-preserved : goal.loop-row-preserved
loop-row-preserved c =
    let larger : c.if-n-longest.longest ≡ max c.loop-row.longest c.fitting-n.result =
    elim c.if-n-longest.branch [
      | then-n-longest w ↦ omega (arith, w.longest-is, w.if-n-longest.true)
      | else-n-longest w ↦ omega (arith, w.longest-is, w.if-n-longest.false)
    ] in
    tried_next c.rows-row-items.result.now (tokens_in c.args.tokens.now) c.loop-row.row-index _ c.loop-row.longest c.if-n-longest.longest c.fitting-n.result
    c.slots-slots.result.now c.loop-row-test.true c.loop-row.invariant c.slots-slots.ensures c.fitting-n.ensures c.if-n-slots.false larger

pub returns-then-n-slots-clause-within : goal.returns-then-n-slots-clause-within
returns-then-n-slots-clause-within c = omega (arith, c.fitting-n.ensures, within c.slots-slots.result.now c.args.tokens.now)
