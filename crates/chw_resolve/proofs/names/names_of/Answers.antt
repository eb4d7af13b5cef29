use Rattle.std.proofs.Common.{◌∙◌, arith}
use Rattle.chw_names.specs.Words.{bytes_of}
use Rattle.chw_resolve.proofs.Lists.{made_more, made_all}
use Rattle.chw_resolve.proofs.names.names_of.Goals as goal

pub loop-word-preserved : goal.loop-word-preserved
loop-word-preserved c =
    c.in_ok-push.ensures.items ∙ made_more bytes_of c.args.words.now c.loop-word.word-index c.word-item.result _ c.loop-word-test.true c.word-item.is c.loop-word.invariant c.in_ok-name_of.ensures

pub returns : goal.returns
returns c = c.from.ensures ∙ made_all bytes_of c.args.words.now c.loop-word.word-index (omega (arith, c.loop-word-test.false)) c.loop-word.invariant
