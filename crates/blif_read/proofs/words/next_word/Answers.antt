use Rattle.std.proofs.Common.{sym, ◌∙◌, arith}
use Rattle.blif_read.proofs.Pieces.{behind_blank, behind_word}
use Rattle.blif_read.proofs.words.next_word.Goals as goal

pub returns-then-len-gt0-clause-some : goal.returns-then-len-gt0-clause-some
returns-then-len-gt0-clause-some c =
    let rest = c.loop-rest.rest.text.now in
    sym c.loop-rest.invariant.words
    ∙ behind_word c.word_len-len.result rest c.behind-left.result.now c.word_len-len.ensures.len c.word_len-len.ensures.within c.behind-left.ensures.text c.if-len-gt0.true

pub loop-rest-preserved : goal.loop-rest-preserved
loop-rest-preserved c =
    let rest = c.loop-rest.rest.text.now in
    record {
      words = behind_blank c.word_len-len.result rest c.behind-left.result.now c.word_len-len.ensures.len c.word_len-len.ensures.within c.behind-left.ensures.text c.if-len-gt0.false
          ∙ c.loop-rest.invariant.words;
      shorter = omega (arith, c.behind-left.ensures.shorter, c.loop-rest.invariant.shorter);
    }
