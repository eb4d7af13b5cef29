use Rattle.std.proofs.Common.{sym, ◌∙◌}
use Rattle.std.proofs.lemmas.Bool.{false≢true}
use Rattle.blif_read.proofs.Sayings.{no_bit}
use Rattle.blif_read.proofs.saying.bit_of.Goals as goal

pub returns-clause-none : goal.returns-clause-none
returns-clause-none c =
    no_bit c.args.word.now (λ is. false≢true (sym c.if-is_word.false ∙ c.is_word.ensures.1 is)) (λ is. false≢true (sym c.if-is_word-2.false ∙ c.is_word-2.ensures.1 is))
