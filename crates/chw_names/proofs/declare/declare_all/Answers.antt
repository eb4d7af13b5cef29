use Rattle.std.proofs.Common.{arith}
use Rattle.chw_names.proofs.Declaring.{declares_word, declares_words}
use Rattle.chw_names.proofs.declare.declare_all.Goals as goal

pub loop-word-preserved : goal.loop-word-preserved
loop-word-preserved c = declares_word c.args.words.now c.loop-word.word-index c.word-item.result c.loop-word-test.true c.word-item.is c.loop-word.invariant c.in_ok-declare.ensures

pub returns : goal.returns
returns c = declares_words c.args.words.now c.loop-word.word-index (omega (arith, c.loop-word-test.false)) c.loop-word.invariant
