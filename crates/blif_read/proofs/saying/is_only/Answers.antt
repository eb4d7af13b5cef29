use Rattle.std.proofs.Common.{sym, ◌∙◌, arith}
use Rattle.std.proofs.lemmas.Bool.{false≢true}
use Rattle.blif_read.proofs.Sayings.{not_only, only_where}
use Rattle.blif_read.proofs.saying.is_only.Goals as goal

pub returns-then-words-ne1 : goal.returns-then-words-ne1
returns-then-words-ne1 c = (
  λ e. absurd (false≢true e),
  λ same. absurd (not_only c.args.words.now c.args.word.now c.if-words-ne1.true same),
)

pub returns : goal.returns
returns c = only_where c.args.words.now _ c.args.word.now c.is_word.result (omega arith) c.is_word.ensures
