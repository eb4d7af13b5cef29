use Rattle.std.proofs.Common.{length, sym, ◌∙◌, arith}
use Rattle.std.proofs.lemmas.List.Sums.{position_or_len_is}
use Rattle.blif_text.specs.Lines.{is_blank}
use Rattle.blif_read.proofs.words.word_len.Goals as goal

pub returns-then-is_blank-clause-len : goal.returns-then-is_blank-clause-len
returns-then-is_blank-clause-len c =
    sym (position_or_len_is is_blank c.args.text.now c.loop-len.len 0 (omega (arith, c.loop-len-test.true)) c.loop-len.invariant (λ _. sym c.is_blank.ensures ∙ c.if-is_blank.true))

pub returns-clause-len : goal.returns-clause-len
returns-clause-len c =
    sym (position_or_len_is is_blank c.args.text.now (length c.args.text.now) 0 (omega arith) (λ k below. c.loop-len.invariant k (omega (arith, c.loop-len-test.false)))
    (λ below. absurd (omega arith)))
