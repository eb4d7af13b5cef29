use Rattle.std.proofs.Common.{sym, ◌∙◌}
use Rattle.wave_text.proofs.Splitting.{behind_word}
use Rattle.wave_read.proofs.words.next.Goals as goal

pub returns-then-len-gt0-clause-some : goal.returns-then-len-gt0-clause-some
returns-then-len-gt0-clause-some c =
    let rest = c.loop-rest.rest in
    let behind = c.behind-rest.result in
    sym c.loop-rest.invariant.words
    ∙ behind_word rest.at behind.at c.piece_len-len.result rest.text.now behind.text.now c.piece_len-len.ensures.len c.piece_len-len.ensures.within c.behind-rest.ensures.text
    c.behind-rest.ensures.place c.if-len-gt0.true
