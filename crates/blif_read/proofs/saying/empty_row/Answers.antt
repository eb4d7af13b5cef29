use Rattle.std.proofs.Common.{[], ◌∷◌, sym, ap, ◌∙◌}
use Rattle.std.proofs.lemmas.Bool.{false≢true}
use Rattle.blif_read.proofs.Rows.{not_empty_row}
use Rattle.blif_read.proofs.saying.empty_row.Goals as goal

pub returns-then-is_word-clause-some : goal.returns-then-is_word-clause-some
returns-then-is_word-clause-some c = (ap (λ w. w ∷ []) (c.is_word.ensures.0 c.if-is_word.true), tt)

pub returns-else-is_word-clause-none : goal.returns-else-is_word-clause-none
returns-else-is_word-clause-none c = not_empty_row c.args.word.now c.requires (λ is. false≢true (sym c.if-is_word.false ∙ c.is_word.ensures.1 is))
