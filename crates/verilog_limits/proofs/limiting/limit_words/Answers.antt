use Rattle.std.proofs.Common.{arith, refl}
use Rattle.verilog_rules.specs.Limits.{word_limit}
use Rattle.verilog_checks.proofs.Steps.{checks_taken, check_taken}
use Rattle.verilog_limits.proofs.limiting.limit_words.Goals as goal

pub loop-word-preserved : goal.loop-word-preserved
loop-word-preserved c = check_taken word_limit c.args.words.now c.loop-word.word-index _ _ _ _ _ c.loop-word-test.true refl c.limit_literal.ensures c.loop-word.invariant

pub returns : goal.returns
returns c = checks_taken word_limit c.args.words.now c.loop-word.word-index _ _ (omega (arith, c.loop-word-test.false)) c.loop-word.invariant
